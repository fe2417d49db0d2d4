-- A fragment that is read is the fragment that was written, and what was written is read again.
use Rattle.std.proofs.Common.{◌≡◌, ◌⊎◌, ℕ, ◌+◌, ◌*◌, ◌%◌, ◌^◌, ◌<◌, ◌≤◌, Bool, true, false, cond, leb, ltb, eqb, ◌&&◌, ◌||◌, List, [], ◌∷◌, ◌++◌, length, Option, Some, None, Result, Ok, refl, sym, ap, subst, ◌∙◌, append_assoc, arith, inl, inr}
use Rattle.std.specs.Int.{w32}
use Rattle.std.specs.List.{flat_map, AllByRecursion}
use Rattle.std.proofs.lemmas.Bool.{ltb-true, lt-ltb, leb-true, le-leb, eqb-true, eq-eqb, and_parts, and_from, or_cases}
use Rattle.std.proofs.lemmas.List.{length-map}
use Rattle.cc_base.specs.Image.{Code}
use Rattle.fragment.specs.declared.Exit.{Exit}
use Rattle.fragment.specs.declared.Exit.TheVariants.{Direct, Indirect, Asks, Stop}
use Rattle.fragment.specs.declared.Probe.{Probe}
use Rattle.probe_tools.specs.declared.probe.ProbeKind.{ProbeKind}
use Rattle.probe_tools.specs.declared.probe.ProbeKind.TheVariants.{Block, Call, Load, Store}
use Rattle.unit_set.specs.Raw.{Tied}
use Rattle.fragment.specs.Build.{words_at}
use Rattle.unit_format.specs.declared.error.TextErr.{TextErr}
use Rattle.unit_format.specs.declared.error.TextErr.TheVariants as errors
use Rattle.unit_format.specs.declared.header.Version.{Version}
use Rattle.unit_format.specs.declared.header.Version.TheVariants.{One, Two}
use Rattle.unit_format.specs.Steps.{rule, known, byte_at, number_at, each, many}
use Rattle.unit_format.specs.Text.{count_text, u32_text, kind_code, probe_text, exit_text, Out, out_text, outs, fragment_text, HoldsWords, IsProbe, IsExit, IsOut, IsFragment, AreFragments}
use Rattle.unit_format.specs.Reading.{count_at, holds_words, place_at, kind_of, probe_at, probes_at, exit_of, exit_at, out_at, outs_at, exits_of, links_of, fragment_at, Turn, turn_at, next_turn}
use Rattle.unit_format.proofs.Words.{length-words_at}
use Rattle.unit_format.proofs.Fields.{Octets, Yields, then, gives, weaker, ruled, knows, Cuts, ◌▸◌, byte_takes, byte_again, wide16, wide32, number_takes, number_again, FitInTurn, each_takes, each_again}

pub rule_again : (b : Bool) (e : TextErr) → b ≡ true → rule b e ≡ Ok tt
rule_again b e h = rw h refl

-- ---- a number of words or probes

count_takes : (v : Version) (bytes : List ℕ) → Octets bytes → Yields (count_at v bytes) (λ x. Cuts bytes (count_text v x.0) x.1 × (x.0 < 2 ^ 16))
unfolding count_at
count_takes One bytes fits = weaker (λ x t. (t.0, omega (arith, t.1))) (byte_takes bytes fits)
count_takes Two bytes fits = number_takes wide16 bytes fits

count_again : (v : Version) (n : ℕ) (rest : List ℕ) → n < 2 ^ 16 → count_at v (count_text v n ++ rest) ≡ Ok (n, rest)
unfolding count_at
count_again One n rest lt = byte_again n rest
count_again Two n rest lt = number_again wide16 n rest lt

-- ---- where it stands

record IsPlace (image : Code) (least x n : ℕ) : Type 0 where
  rises : least ≤ x
  address : x < 2 ^ 32
  aligned : x % 4 ≡ 0
  within : HoldsWords image x n

holds_from : (image : Code) (x n : ℕ) → holds_words image x n ≡ true → HoldsWords image x n
holds_from image x n h =
    let a = and_parts ((leb 1 n && leb n 64) && leb image.start x) (leb (x + 4 * n) (image.start + length image.bytes)) h in
    let b = and_parts (leb 1 n && leb n 64) (leb image.start x) a.0 in
    let c = and_parts (leb 1 n) (leb n 64) b.0 in
    record { some = leb-true _ _ c.0; at_most = leb-true _ _ c.1; from = leb-true _ _ b.1; to = leb-true _ _ a.1 }

holds_to : (image : Code) (x n : ℕ) → HoldsWords image x n → holds_words image x n ≡ true
holds_to image x n w =
    and_from ((leb 1 n && leb n 64) && leb image.start x) (leb (x + 4 * n) (image.start + length image.bytes))
    (and_from (leb 1 n && leb n 64) (leb image.start x) (and_from (leb 1 n) (leb n 64) (le-leb _ _ w.some) (le-leb _ _ w.at_most)) (le-leb _ _ w.from)) (le-leb _ _ w.to)

place_takes : (v : Version) (image : Code) (i least : ℕ) (bytes : List ℕ) → Octets bytes
    → Yields (place_at v image i least bytes) (λ x. Cuts bytes (u32_text x.0.0 ++ count_text v x.0.1) x.1 × IsPlace image least x.0.0 x.0.1)
unfolding place_at
place_takes v image i least bytes fits =
    then (number_at w32 bytes) _ (number_takes wide32 bytes fits) (λ address t.
    then (rule (leb least address.0) (errors.Order i)) _ (ruled _ _) (λ _ rises.
    then (rule (eqb (address.0 % 4) 0) (errors.Field i)) _ (ruled _ _) (λ _ aligned.
    then (count_at v address.1) _ (count_takes v address.1 t.0.rest_octets) (λ words u.
    then (rule (holds_words image address.0 words.0) (errors.Field i)) _ (ruled _ _) (λ _ within.
    gives ((address.0, words.0), words.1) (
      t.0 ▸ u.0,
      record {
        rises = leb-true _ _ rises;
        address = t.1;
        aligned = eqb-true _ _ aligned;
        within = holds_from image address.0 words.0 within;
      },
    ))))))

place_again : (v : Version) (image : Code) (i least x n : ℕ) (rest : List ℕ) → IsPlace image least x n
    → place_at v image i least ((u32_text x ++ count_text v n) ++ rest) ≡ Ok ((x, n), rest)
unfolding place_at
place_again v image i least x n rest is =
    let few : n < 2 ^ 16 = omega (arith, is.within.at_most) in
    ap (place_at v image i least) (append_assoc (u32_text x) (count_text v n) rest)
    ∙ rw (
      number_again wide32 x (count_text v n ++ rest) is.address,
      rule_again _ (errors.Order i) (le-leb least x is.rises),
      rule_again _ (errors.Field i) (eq-eqb (x % 4) 0 is.aligned),
      count_again v n rest few,
      rule_again _ (errors.Field i) (holds_to image x n is.within),
    ) refl

-- ---- probes

-- what a chain of tests answered
pub some_if : {A : Type 0} (b : Bool) (x y : A) (o : Option A) → cond b (Some x) o ≡ Some y → ((b ≡ true) × (x ≡ y)) ⊎ (o ≡ Some y)
some_if true x y o e = inl (refl, cc)
some_if false x y o e = inr e

some_under : {A : Type 0} (b : Bool) (y : A) (o : Option A) → cond b o None ≡ Some y → (b ≡ true) × (o ≡ Some y)
some_under true y o e = (refl, e)
some_under false y o e = absurd cc

kind_is : (n : ℕ) (k : ProbeKind) → kind_of n ≡ Some k → n ≡ kind_code k
kind_is n k e = elim (some_if (eqb n 0) Block k _ e) [
  | inl p ↦ eqb-true n 0 p.0 ∙ ap kind_code p.1
  | inr e ↦ elim (some_if (eqb n 1) Call k _ e) [
    | inl p ↦ eqb-true n 1 p.0 ∙ ap kind_code p.1
    | inr e ↦ elim (some_if (eqb n 2) Load k _ e) [
      | inl p ↦ eqb-true n 2 p.0 ∙ ap kind_code p.1
      | inr e ↦ elim (some_if (eqb n 3) Store k None e) [
        | inl p ↦ eqb-true n 3 p.0 ∙ ap kind_code p.1
        | inr e ↦ absurd cc
      ]
    ]
  ]
]

kind_again : (k : ProbeKind) → kind_of (kind_code k) ≡ Some k
kind_again Block = refl
kind_again Call = refl
kind_again Load = refl
kind_again Store = refl

probe_takes : (i words : ℕ) (bytes : List ℕ) → Octets bytes → Yields (probe_at i words bytes) (λ x. Cuts bytes (probe_text x.0) x.1 × IsProbe words x.0)
unfolding probe_at
probe_takes i words bytes fits =
    then (byte_at bytes) _ (byte_takes bytes fits) (λ place t.
    then (rule (ltb place.0 words) (errors.Field i)) _ (ruled _ _) (λ _ before.
    then (byte_at place.1) _ (byte_takes place.1 t.0.rest_octets) (λ code u.
    then (known (kind_of code.0) (errors.Field i)) _ (knows _ _) (λ kind is.
    let both : Cuts bytes (place.0 ∷ code.0 ∷ []) code.1 = t.0 ▸ u.0 in
    let spelled : Cuts bytes (place.0 ∷ kind_code kind ∷ []) code.1 = subst (λ (c : ℕ). Cuts bytes (place.0 ∷ c ∷ []) code.1) (kind_is code.0 kind is) both in
    gives (record { place = place.0; kind = kind }, code.1) (spelled, ltb-true _ _ before)))))

probe_again : (i words : ℕ) (p : Probe) (rest : List ℕ) → IsProbe words p → probe_at i words (probe_text p ++ rest) ≡ Ok (p, rest)
unfolding probe_at
probe_again i words p rest before =
    rw (byte_again p.place (kind_code p.kind ∷ rest), rule_again _ (errors.Field i) (lt-ltb p.place words before), byte_again (kind_code p.kind) rest, kind_again p.kind) refl

-- ---- values in a row, by one step

turns_from_all : {A : Type 0} (P : A → Type 0) (xs : List A) → AllByRecursion P xs → FitInTurn (λ (s : Unit {0}). P) (λ s x. s) tt xs
turns_from_all P [] h = tt
turns_from_all P (x ∷ xs) h = (h.0, turns_from_all P xs h.1)

all_from_turns : {A : Type 0} (P : A → Type 0) (xs : List A) → FitInTurn (λ (s : Unit {0}). P) (λ s x. s) tt xs → AllByRecursion P xs
all_from_turns P [] h = tt
all_from_turns P (x ∷ xs) h = (h.0, all_from_turns P xs h.1)

module _ {A : Type 0} (step : List ℕ → Result (A × List ℕ) TextErr) (text : A → List ℕ) (P : A → Type 0) where
  many_takes : ((bytes : List ℕ) → Octets bytes → Yields (step bytes) (λ x. Cuts bytes (text x.0) x.1 × P x.0)) → (n : ℕ) (bytes : List ℕ) → Octets bytes
      → Yields (many step n bytes) (λ x. Cuts bytes (flat_map text x.0) x.1 × (length x.0 ≡ n) × AllByRecursion P x.0)
  many_takes law n bytes fits = weaker (λ x t. (t.0, t.2, all_from_turns P x.0 t.1)) (each_takes (λ (s : Unit {0}). step) (λ s x. s) text (λ s. P) (λ s. law) n tt bytes fits)

  many_again : ((x : A) (rest : List ℕ) → P x → step (text x ++ rest) ≡ Ok (x, rest)) → (xs : List A) (rest : List ℕ) → AllByRecursion P xs → many step (length xs) (flat_map text xs ++ rest) ≡ Ok (xs, rest)
  many_again law xs rest all = each_again (λ (s : Unit {0}). step) (λ s x. s) text (λ s. P) (λ s. law) xs tt rest (length xs) refl (turns_from_all P xs all)

probes_text : Version → List Probe → List ℕ
probes_text v ps = count_text v (length ps) ++ flat_map probe_text ps

probes_takes : (v : Version) (i words : ℕ) (bytes : List ℕ) → Octets bytes
    → Yields (probes_at v i words bytes) (λ x. Cuts bytes (count_text v (length x.0) ++ flat_map probe_text x.0) x.1 × (length x.0 ≤ 64) × AllByRecursion (IsProbe words) x.0)
unfolding probes_at
probes_takes v i words bytes fits =
    then (count_at v bytes) _ (count_takes v bytes fits) (λ n t.
    then (rule (leb n.0 64) (errors.Field i)) _ (ruled _ _) (λ _ few.
    weaker (λ x u.
    let whole : Cuts bytes (count_text v n.0 ++ flat_map probe_text x.0) x.1 = t.0 ▸ u.0 in
    let n-is : n.0 ≡ length x.0 = sym u.1 in
    let le : n.0 ≤ 64 = leb-true _ _ few in
    (subst (λ (k : ℕ). Cuts bytes (count_text v k ++ flat_map probe_text x.0) x.1) n-is whole, omega arith, u.2))
    (many_takes (probe_at i words) probe_text (IsProbe words) (probe_takes i words) n.0 n.1 t.0.rest_octets)))

probes_again : (v : Version) (i words : ℕ) (ps : List Probe) (rest : List ℕ) → length ps ≤ 64 → AllByRecursion (IsProbe words) ps
    → probes_at v i words ((count_text v (length ps) ++ flat_map probe_text ps) ++ rest) ≡ Ok (ps, rest)
unfolding probes_at
probes_again v i words ps rest few all =
    ap (probes_at v i words) (append_assoc (count_text v (length ps)) (flat_map probe_text ps) rest)
    ∙ rw (count_again v (length ps) (flat_map probe_text ps ++ rest) (omega (arith, few)), rule_again _ (errors.Field i) (le-leb (length ps) 64 few)) (many_again (probe_at i words) probe_text (IsProbe words) (probe_again i words) ps rest all)

-- ---- exits

exit_is : (kind target : ℕ) (e : Exit) → target < 2 ^ 32 → exit_of kind target ≡ Some e → (kind ∷ u32_text target ≡ exit_text e) × IsExit e
exit_is kind target e lt h = elim (some_if (eqb kind 0) (Direct target) e _ h) [
  | inl p ↦ subst (λ (x : Exit). (kind ∷ u32_text target ≡ exit_text x) × IsExit x) p.1 (ap (λ k. k ∷ u32_text target) (eqb-true kind 0 p.0), lt)
  | inr h ↦ elim (some_if (eqb kind 2) (Asks target) e _ h) [
    | inl p ↦ subst (λ (x : Exit). (kind ∷ u32_text target ≡ exit_text x) × IsExit x) p.1 (ap (λ k. k ∷ u32_text target) (eqb-true kind 2 p.0), lt)
    | inr h ↦
        let g = some_under (eqb target 0) e _ h in
        let zero-is : target ≡ 0 = eqb-true target 0 g.0 in
        elim (some_if (eqb kind 1) Indirect e _ g.1) [
          | inl p ↦ subst (λ (x : Exit). (kind ∷ u32_text target ≡ exit_text x) × IsExit x) p.1 (ap (λ k. k ∷ u32_text target) (eqb-true kind 1 p.0) ∙ ap (λ t. 1 ∷ u32_text t) zero-is, tt)
          | inr h ↦ elim (some_if (eqb kind 3) Stop e None h) [
            | inl p ↦ subst (λ (x : Exit). (kind ∷ u32_text target ≡ exit_text x) × IsExit x) p.1 (ap (λ k. k ∷ u32_text target) (eqb-true kind 3 p.0) ∙ ap (λ t. 3 ∷ u32_text t) zero-is, tt)
            | inr h ↦ absurd cc
          ]
        ]
  ]
]

exit_takes : (i : ℕ) (bytes : List ℕ) → Octets bytes → Yields (exit_at i bytes) (λ x. Cuts bytes (exit_text x.0) x.1 × IsExit x.0)
unfolding exit_at
exit_takes i bytes fits =
    then (byte_at bytes) _ (byte_takes bytes fits) (λ kind t.
    then (rule (ltb kind.0 4) (errors.Field i)) _ (ruled _ _) (λ _ is_kind.
    then (number_at w32 kind.1) _ (number_takes wide32 kind.1 t.0.rest_octets) (λ target u.
    then (known (exit_of kind.0 target.0) (errors.Field i)) _ (knows _ _) (λ exit is.
    let both : Cuts bytes (kind.0 ∷ u32_text target.0) target.1 = t.0 ▸ u.0 in
    let spelled = exit_is kind.0 target.0 exit u.1 is in
    gives (exit, target.1) (subst (λ (text : List ℕ). Cuts bytes text target.1) spelled.0 both, spelled.1)))))

exit_step : (i kind target : ℕ) (e : Exit) (rest : List ℕ) → ltb kind 4 ≡ true → target < 2 ^ 32 → exit_of kind target ≡ Some e → exit_at i (kind ∷ (u32_text target ++ rest)) ≡ Ok (e, rest)
unfolding exit_at
exit_step i kind target e rest is_kind lt is =
    rw (byte_again kind (u32_text target ++ rest), rule_again _ (errors.Field i) is_kind, number_again wide32 target rest lt, is) refl

exit_again : (i : ℕ) (e : Exit) (rest : List ℕ) → IsExit e → exit_at i (exit_text e ++ rest) ≡ Ok (e, rest)
exit_again i (Direct target) rest lt = exit_step i 0 target (Direct target) rest refl lt refl
exit_again i Indirect rest lt = exit_step i 1 0 Indirect rest refl (omega arith) refl
exit_again i (Asks target) rest lt = exit_step i 2 target (Asks target) rest refl lt refl
exit_again i Stop rest lt = exit_step i 3 0 Stop rest refl (omega arith) refl

out_takes : (i : ℕ) (bytes : List ℕ) → Octets bytes → Yields (out_at i bytes) (λ x. Cuts bytes (out_text x.0) x.1 × IsOut x.0)
unfolding out_at
out_takes i bytes fits =
    then (exit_at i bytes) _ (exit_takes i bytes fits) (λ exit t.
    then (number_at w32 exit.1) _ (number_takes wide32 exit.1 t.0.rest_octets) (λ link u.
    gives ((exit.0, link.0), link.1) (t.0 ▸ u.0, (t.1, u.1))))

out_again : (i : ℕ) (out : Out) (rest : List ℕ) → IsOut out → out_at i (out_text out ++ rest) ≡ Ok (out, rest)
unfolding out_at
out_again i out rest is =
    ap (out_at i) (append_assoc (exit_text out.0) (u32_text out.1) rest) ∙ rw (exit_again i out.0 (u32_text out.1 ++ rest) is.0, number_again wide32 out.1 rest is.1) refl

is_one_or_two : (n : ℕ) → (eqb n 1 || eqb n 2) ≡ true → (n ≡ 1) ⊎ (n ≡ 2)
is_one_or_two n h = elim (or_cases (eqb n 1) (eqb n 2) h) [ inl a ↦ inl (eqb-true n 1 a) | inr b ↦ inr (eqb-true n 2 b) ]

outs_takes : (i : ℕ) (bytes : List ℕ) → Octets bytes
    → Yields (outs_at i bytes) (λ x. Cuts bytes (length x.0 ∷ flat_map out_text x.0) x.1 × ((length x.0 ≡ 1) ⊎ (length x.0 ≡ 2)) × AllByRecursion IsOut x.0)
unfolding outs_at
outs_takes i bytes fits =
    then (byte_at bytes) _ (byte_takes bytes fits) (λ n t.
    then (rule (eqb n.0 1 || eqb n.0 2) (errors.Field i)) _ (ruled _ _) (λ _ few.
    weaker (λ x u.
    let whole : Cuts bytes (n.0 ∷ flat_map out_text x.0) x.1 = t.0 ▸ u.0 in
    let n-is : n.0 ≡ length x.0 = sym u.1 in
    let one_or_two : (length x.0 ≡ 1) ⊎ (length x.0 ≡ 2) = subst (λ (k : ℕ). (k ≡ 1) ⊎ (k ≡ 2)) n-is (is_one_or_two n.0 few) in
    (subst (λ (k : ℕ). Cuts bytes (k ∷ flat_map out_text x.0) x.1) n-is whole, one_or_two, u.2))
    (many_takes (out_at i) out_text IsOut (out_takes i) n.0 n.1 t.0.rest_octets)))

one_or_two : (n : ℕ) → (n ≡ 1) ⊎ (n ≡ 2) → (eqb n 1 || eqb n 2) ≡ true
one_or_two n (inl a) = rw a refl
one_or_two n (inr b) = rw b refl

outs_again : (i : ℕ) (xs : List Out) (rest : List ℕ) → (length xs ≡ 1) ⊎ (length xs ≡ 2) → AllByRecursion IsOut xs → outs_at i ((length xs ∷ flat_map out_text xs) ++ rest) ≡ Ok (xs, rest)
unfolding outs_at
outs_again i xs rest few all =
    rw (byte_again (length xs) (flat_map out_text xs ++ rest), rule_again _ (errors.Field i) (one_or_two (length xs) few)) (many_again (out_at i) out_text IsOut (out_again i) xs rest all)

-- ---- fragments

outs_same : (xs : List Out) → outs (exits_of xs) (links_of xs) ≡ xs
outs_same [] = refl
outs_same (x ∷ xs) = ap (λ (ys : List Out). x ∷ ys) (outs_same xs)

exits_back : (es : List Exit) (ls : List ℕ) → length ls ≡ length es → exits_of (outs es ls) ≡ es
exits_back [] ls e = refl
exits_back (x ∷ es) [] e = absurd (omega (arith, e))
exits_back (x ∷ es) (l ∷ ls) e = ap (λ (ys : List Exit). x ∷ ys) (exits_back es ls (omega (arith, e)))

links_back : (es : List Exit) (ls : List ℕ) → length ls ≡ length es → links_of (outs es ls) ≡ ls
links_back [] [] e = refl
links_back [] (l ∷ ls) e = absurd (omega (arith, e))
links_back (x ∷ es) [] e = absurd (omega (arith, e))
links_back (x ∷ es) (l ∷ ls) e = ap (λ (ys : List ℕ). l ∷ ys) (links_back es ls (omega (arith, e)))

tied : ℕ → List ℕ → List Probe → List Exit → List ℕ → Tied
tied a ws ps es ls = record { frag = record { address = a; words = ws; probes = ps; exits = es }; links = ls }

-- what is made of the parts that were read
abbrev made : Code → ℕ → ℕ → List Probe → List Out → Tied
made image a n ps xs = record { frag = record { address = a; words = words_at image a n; probes = ps; exits = exits_of xs }; links = links_of xs }

made_text : (v : Version) (image : Code) (a n : ℕ) (ps : List Probe) (xs : List Out)
    → (((u32_text a ++ count_text v n) ++ (count_text v (length ps) ++ flat_map probe_text ps)) ++ (length xs ∷ flat_map out_text xs)) ≡ fragment_text v (made image a n ps xs)
made_text v image a n ps xs = rw (length-words_at image a n, length-map xs (λ (x : Out). x.0), outs_same xs) refl

made_fits : (image : Code) (least a n : ℕ) (ps : List Probe) (xs : List Out) → IsPlace image least a n → length ps ≤ 64 → AllByRecursion (IsProbe n) ps
    → (length xs ≡ 1) ⊎ (length xs ≡ 2) → AllByRecursion IsOut xs → IsFragment image least (made image a n ps xs)
made_fits image least a n ps xs place few probes exits all =
    let len = length-words_at image a n in
    record {
      rises = place.rises;
      address = place.address;
      aligned = place.aligned;
      within = rw len place.within;
      words = ap (words_at image a) (sym len);
      few_probes = few;
      probes = rw len probes;
      exits = rw (length-map xs (λ (x : Out). x.0)) exits;
      links = length-map xs (λ (x : Out). x.1) ∙ sym (length-map xs (λ (x : Out). x.0));
      all_outs = rw (outs_same xs) all;
    }

pub fragment_takes : (v : Version) (image : Code) (i least : ℕ) (bytes : List ℕ) → Octets bytes
    → Yields (fragment_at v image i least bytes) (λ x. Cuts bytes (fragment_text v x.0) x.1 × IsFragment image least x.0)
unfolding fragment_at
fragment_takes v image i least bytes fits =
    then (place_at v image i least bytes) _ (place_takes v image i least bytes fits) (λ place t.
    then (probes_at v i place.0.1 place.1) _ (probes_takes v i place.0.1 place.1 t.0.rest_octets) (λ probes u.
    then (outs_at i probes.1) _ (outs_takes i probes.1 u.0.rest_octets) (λ xs w.
    let whole = (t.0 ▸ u.0) ▸ w.0 in
    gives (made image place.0.0 place.0.1 probes.0 xs.0, xs.1) (
      subst (λ (text : List ℕ). Cuts bytes text xs.1) (made_text v image place.0.0 place.0.1 probes.0 xs.0) whole,
      made_fits image least place.0.0 place.0.1 probes.0 xs.0 t.1 u.1 u.2 w.1 w.2,
    ))))

length-outs : (es : List Exit) (ls : List ℕ) → length ls ≡ length es → length es ≡ length (outs es ls)
length-outs es ls e = sym (ap length (exits_back es ls e)) ∙ length-map (outs es ls) (λ (x : Out). x.0)

made_again : (image : Code) (least : ℕ) (f : Tied) → IsFragment image least f → made image f.frag.address (length f.frag.words) f.frag.probes (outs f.frag.exits f.links) ≡ f
unfolding tied
made_again image least f is =
    let xs = outs f.frag.exits f.links in
    ap (λ ws. tied f.frag.address ws f.frag.probes (exits_of xs) (links_of xs)) (sym is.words)
    ∙ ap (λ es. tied f.frag.address f.frag.words f.frag.probes es (links_of xs)) (exits_back f.frag.exits f.links is.links)
    ∙ ap (λ ls. tied f.frag.address f.frag.words f.frag.probes f.frag.exits ls) (links_back f.frag.exits f.links is.links)

done : Tied → List ℕ → Result (Tied × List ℕ) TextErr
done f rest = Ok (f, rest)

pub fragment_again : (v : Version) (image : Code) (i least : ℕ) (f : Tied) (rest : List ℕ) → IsFragment image least f → fragment_at v image i least (fragment_text v f ++ rest) ≡ Ok (f, rest)
unfolding fragment_at done
fragment_again v image i least f rest is =
    let xs = outs f.frag.exits f.links in
    let a = u32_text f.frag.address ++ count_text v (length f.frag.words) in
    let b = count_text v (length f.frag.probes) ++ flat_map probe_text f.frag.probes in
    let n-is = length-outs f.frag.exits f.links is.links in
    let c : List ℕ → List ℕ = λ tail. tail ++ rest in
    let grouped : fragment_text v f ++ rest ≡ a ++ (b ++ ((length xs ∷ flat_map out_text xs) ++ rest)) =
    append_assoc (a ++ b) (length f.frag.exits ∷ flat_map out_text xs) rest
    ∙ append_assoc a b ((length f.frag.exits ∷ flat_map out_text xs) ++ rest)
    ∙ ap (λ (k : ℕ). a ++ (b ++ ((k ∷ flat_map out_text xs) ++ rest))) n-is in
    let place : IsPlace image least f.frag.address (length f.frag.words) = record { rises = is.rises; address = is.address; aligned = is.aligned; within = is.within } in
    let few : (length xs ≡ 1) ⊎ (length xs ≡ 2) = subst (λ (k : ℕ). (k ≡ 1) ⊎ (k ≡ 2)) n-is is.exits in
    ap (fragment_at v image i least) grouped
    ∙ rw (
      place_again v image i least f.frag.address (length f.frag.words) (b ++ ((length xs ∷ flat_map out_text xs) ++ rest)) place,
      probes_again v i (length f.frag.words) f.frag.probes ((length xs ∷ flat_map out_text xs) ++ rest) is.few_probes is.probes,
      outs_again i xs rest few is.all_outs,
    )
    (ap (λ (g : Tied). done g rest) (made_again image least f is))

-- ---- all of them

turns_from_rising : (image : Code) (i least : ℕ) (fs : List Tied) → AreFragments image least fs → FitInTurn (λ (t : Turn). IsFragment image t.1) next_turn (i, least) fs
turns_from_rising image i least [] h = tt
turns_from_rising image i least (f ∷ fs) h = (h.0, turns_from_rising image (i + 1) (f.frag.address + 1) fs h.1)

rising_from_turns : (image : Code) (i least : ℕ) (fs : List Tied) → FitInTurn (λ (t : Turn). IsFragment image t.1) next_turn (i, least) fs → AreFragments image least fs
rising_from_turns image i least [] h = tt
rising_from_turns image i least (f ∷ fs) h = (h.0, rising_from_turns image (i + 1) (f.frag.address + 1) fs h.1)

pub row_takes : (v : Version) (image : Code) (n : ℕ) (bytes : List ℕ) → Octets bytes
    → Yields (each (turn_at v image) next_turn (0, 0) n bytes) (λ x. Cuts bytes (flat_map (fragment_text v) x.0) x.1 × (length x.0 ≡ n) × AreFragments image 0 x.0)
row_takes v image n bytes fits =
    weaker (λ x t. (t.0, t.2, rising_from_turns image 0 0 x.0 t.1))
    (each_takes (turn_at v image) next_turn (fragment_text v) (λ (t : Turn). IsFragment image t.1) (λ t. fragment_takes v image t.0 t.1) n (0, 0) bytes fits)

pub row_again : (v : Version) (image : Code) (fs : List Tied) (rest : List ℕ) → AreFragments image 0 fs
    → each (turn_at v image) next_turn (0, 0) (length fs) (flat_map (fragment_text v) fs ++ rest) ≡ Ok (fs, rest)
row_again v image fs rest all =
    each_again (turn_at v image) next_turn (fragment_text v) (λ (t : Turn). IsFragment image t.1) (λ t. fragment_again v image t.0 t.1) fs (0, 0) rest (length fs) refl (turns_from_rising image 0 0 fs all)
