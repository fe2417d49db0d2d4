-- Blocks in codes that are alike.
use Rattle.std.proofs.Common.{◌≡◌, ℕ, ◌+◌, ◌-◌, ◌*◌, ◌<◌, ◌≤◌, ◌⊎◌, true, false, List, ◌++◌, length, get_or, take, drop, Some, None, refl, sym, ◌∙◌, ap, arith, inl, inr, length-append}
use Rattle.std.proofs.lemmas.Bool.{cases_Bool}
use Rattle.std.proofs.lemmas.Bool.Decides.{nat_tests}
use Rattle.std.proofs.lemmas.List.{ext_get_or, get_or-take, get_or-drop, get_or_append_left, get_or-append_right, length-take, length-drop}
use Rattle.cc_base.specs.Image.{Code}
use Rattle.rv_decode.specs.declared.ins.Isa.{Isa}
use Rattle.plain_machine.specs.Memory.{number_of}
use Rattle.probe_tools.specs.declared.tool.Tool.{Tool}
use Rattle.fragment.specs.Parts.{Parts}
use Rattle.fragment.specs.Build.{IsBuilt, IsFresh, word_at, has_word}
use Rattle.fragment.specs.Laws.{AreAlike, Congruence, Locality, overwritten}
use Rattle.fragment.proofs.Values.{has_of, value-built, built-value}

-- the same bytes in a row
same_run : (xs ys : List ℕ) (p n : ℕ) → p + n ≤ length xs → length ys ≡ length xs → ((i : ℕ) → i < n → get_or ys (p + i) 0 ≡ get_or xs (p + i) 0) → take n (drop p ys) ≡ take n (drop p xs)
same_run xs ys p n fits same each =
    let of_ys : length (take n (drop p ys)) ≡ n = omega (arith, length-take {A = ℕ} n (drop p ys), length-drop {A = ℕ} p ys) in
    let of_xs : length (take n (drop p xs)) ≡ n = omega (arith, length-take {A = ℕ} n (drop p xs), length-drop {A = ℕ} p xs) in
    ext_get_or 0 (take n (drop p ys)) (take n (drop p xs)) (of_ys ∙ sym of_xs) (λ i h.
    let less : i < n = omega arith in
    get_or-take n (drop p ys) i 0 less ∙ get_or-drop p ys i 0 ∙ each i less ∙ sym (get_or-drop p xs i 0) ∙ sym (get_or-take n (drop p xs) i 0 less))

module _ (a b : Code) (block : Parts) (alike : AreAlike a b block) where
  same_has : (x : ℕ) → has_word b x ≡ has_word a x
  same_has x = rw (alike.start, alike.size) refl

  -- a word of the block
  same_word : (x : ℕ) → block.address ≤ x → x + 4 ≤ block.address + 4 * length block.words → word_at b x ≡ word_at a x
  same_word x low high = elim (cases_Bool (has_word a x)) [
    | inl has ↦
        let has_b : has_word b x ≡ true = same_has x ∙ has in
        let fits : (a.start ≤ x) × (x + 4 ≤ a.start + length a.bytes) = (grind (arith, nat_tests), grind (arith, nat_tests)) in
        let run : take 4 (drop (x - a.start) b.bytes) ≡ take 4 (drop (x - a.start) a.bytes) =
        same_run a.bytes b.bytes (x - a.start) 4 (omega (arith, fits.0, fits.1)) alike.size (λ i less.
        let e : x - a.start + i ≡ x + i - a.start = omega (arith, fits.0) in
        let e' : x + i - a.start ≡ x + i - b.start = ap (λ s. x + i - s) (sym alike.start) in
        ap (λ j. get_or b.bytes j 0) (e ∙ e') ∙ alike.bytes (x + i) (omega arith) (omega arith) ∙ ap (λ j. get_or a.bytes j 0) (sym e)) in
        rw (has_b, has) (ap (λ s. Some (number_of (take 4 (drop (x - s) b.bytes)))) alike.start ∙ ap (λ bs. Some (number_of bs)) run)
    | inr lacks ↦ let lacks_b : has_word b x ≡ false = same_has x ∙ lacks in rw (lacks_b, lacks) refl
  ]

  -- where the one code ends, the other does
  same_none : (x : ℕ) → word_at a x ≡ None → word_at b x ≡ None
  same_none x none = elim (cases_Bool (has_word a x)) [
    | inl has ↦ let impossible = rw has at none in absurd (cc)
    | inr lacks ↦ let lacks_b : has_word b x ≡ false = same_has x ∙ lacks in rw lacks_b refl
  ]

  built_too : (isa : Isa) (tool : Tool) (max : ℕ) → IsBuilt a isa tool max block → IsBuilt b isa tool max block
  built_too isa tool max is = record {
    aligned = is.aligned;
    not_empty = is.not_empty;
    at_most = is.at_most;
    words = λ i h. same_word (block.address + 4 * i) (omega arith) (omega arith) ∙ is.words i h;
    inner = is.inner;
    stopped = elim is.stopped [
      | inl ends ↦ inl ends
      | inr (inl full) ↦ inr (inl full)
      | inr (inr none) ↦ inr (inr (same_none (block.address + 4 * length block.words) none))
    ];
    probes = is.probes;
    exits = is.exits;
  }

  fresh_too : (isa : Isa) (tool : Tool) (max : ℕ) → 0 < max → IsFresh a isa tool max block → IsFresh b isa tool max block
  fresh_too isa tool max some fresh =
      (built-value b block.address isa tool max block some).1 (built_too isa tool max (value-built a block.address isa tool max block some fresh).0, refl)

turned : (a b : Code) (block : Parts) → AreAlike a b block → AreAlike b a block
turned a b block alike = record { start = sym alike.start; size = sym alike.size; bytes = λ x low high. sym (alike.bytes x low high) }

pub congruence : Congruence
congruence a b isa tool max block some alike = (fresh_too a b block alike isa tool max some, fresh_too b a block (turned a b block alike) isa tool max some)

-- ---- bytes beside the block

starts_of : (code : Code) (a : ℕ) → has_word code (a + 4 * 0) ≡ true → code.start ≤ a
starts_of code a has = grind (arith, nat_tests)

starts : (code : Code) (isa : Isa) (tool : Tool) (max : ℕ) (block : Parts) → 0 < max → IsFresh code isa tool max block → code.start ≤ block.address
starts code isa tool max block some fresh =
    let is : IsBuilt code isa tool max block = (value-built code block.address isa tool max block some fresh).0 in
    starts_of code block.address (has_of code (block.address + 4 * 0) (is.words 0 is.not_empty))

-- an element beside those written
beside : (xs new : List ℕ) (p j : ℕ) → p + length new ≤ length xs → (j < p) ⊎ (p + length new ≤ j) → get_or (take p xs ++ new ++ drop (p + length new) xs) j 0 ≡ get_or xs j 0
beside xs new p j fits (inl before) =
    let front : length (take p xs) ≡ p = omega (arith, length-take {A = ℕ} p xs) in
    get_or_append_left (take p xs ++ new) (drop (p + length new) xs) 0 j (omega (arith, length-append (take p xs) new))
    ∙ get_or_append_left (take p xs) new 0 j (omega arith)
    ∙ get_or-take p xs j 0 before
beside xs new p j fits (inr behind) =
    let front : length (take p xs ++ new) ≡ p + length new = omega (arith, length-append (take p xs) new, length-take {A = ℕ} p xs) in
    let back : p + length new + (j - (p + length new)) ≡ j = omega arith in
    get_or-append_right (take p xs ++ new) (drop (p + length new) xs) (p + length new) j 0 front behind
    ∙ get_or-drop (p + length new) xs (j - (p + length new)) 0
    ∙ ap (λ n. get_or xs n 0) back

overwritten_size : (xs new : List ℕ) (p : ℕ) → p + length new ≤ length xs → length (take p xs ++ new ++ drop (p + length new) xs) ≡ length xs
overwritten_size xs new p fits =
    omega (arith, length-append (take p xs ++ new) (drop (p + length new) xs), length-append (take p xs) new, length-take {A = ℕ} p xs, length-drop {A = ℕ} (p + length new) xs)

-- a place beside the bytes written, as an index
index_beside : (start x n j low high : ℕ) → start ≤ x → low ≤ j → j < high → (x + n ≤ low) ⊎ (high ≤ x) → start ≤ j → (j - start < x - start) ⊎ (x - start + n ≤ j - start)
index_beside start x n j low high s l h (inl before) t = inr (omega arith)
index_beside start x n j low high s l h (inr behind) t = inl (omega arith)

pub locality : Locality
locality = record {
  changes = λ code bytes isa tool max block some size each fresh.
      let begin : code.start ≤ block.address = starts code isa tool max block some fresh in
      fresh_too code (record code { bytes = bytes }) block (record {
        start = refl;
        size = size;
        bytes = λ x low high. elim (each (x - code.start)) [
          | inl same ↦ same
          | inr (inl before) ↦ absurd (omega arith)
          | inr (inr behind) ↦ absurd (omega arith)
        ];
      }) isa tool max some fresh;
  writes = λ code isa tool max block x bytes some low high apart fresh.
      let fits : x - code.start + length bytes ≤ length code.bytes = omega arith in
      let begin : code.start ≤ block.address = starts code isa tool max block some fresh in
      fresh_too code (overwritten x bytes code) block (record {
        start = refl;
        size = overwritten_size code.bytes bytes (x - code.start) fits;
        bytes = λ j l h. beside code.bytes bytes (x - code.start) (j - code.start) fits
            (index_beside code.start x (length bytes) j block.address (block.address + 4 * length block.words) low l h apart (omega arith));
      }) isa tool max some fresh;
}
