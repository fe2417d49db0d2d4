-- The first live block that a span meets, found page by page.
use Rattle.std.proofs.Common.{◌≡◌, ℕ, ◌+◌, ◌-◌, ◌*◌, ◌/◌, ◌<◌, ◌≤◌, ◌&&◌, Bool, true, false, List, [], Option, Some, None, max, min, refl, sym, ◌∙◌, ap, subst, arith, inl, inr, le-ltb}
use Rattle.std.specs.Prelude.{is_some, nat_le}
use Rattle.std.proofs.lemmas.Bool.{cases_lt}
use Rattle.std.proofs.lemmas.Bool.Decides.{nat_tests}
use Rattle.code_writes.specs.Meeting.{Lengths, meets, NoneMeets, IsFirst, Answers}
use Rattle.code_writes.specs.Block.{block, In, passes, is_on, IsLeastIn, FirstIn}
use Rattle.code_writes.specs.Index.{IsIndex}
use Rattle.code_writes.specs.declared.page.Block.{Block}
use Rattle.code_writes.proofs.Paging.{on, on-bounds}

-- what it is to meet
meets-bounds : (x n a len : ℕ) → meets x n a len ≡ true → (a < x + n) × (x < a + len) × (0 < len)
meets-bounds x n a len met = elim (cases_lt (max a x) (min (a + len) (x + n))) [
  | inl less ↦ (omega arith, omega arith, omega arith)
  | inr more ↦ let clash : false ≡ true = sym (le-ltb (max a x) (min (a + len) (x + n)) more) ∙ met in cc
]

pub none-empty : (live : Lengths) (x from : ℕ) → NoneMeets live x 0 from
none-empty live x from a len f is = grind (arith, nat_tests)

-- a block from low on that is met passes the test, and the other way round
passes-met : (x n low : ℕ) (b : Block) → low ≤ b.addr → meets x n b.addr b.len ≡ true → passes x n low b ≡ true
unfolding passes
passes-met x n low b from met = grind (arith, nat_tests)

passes-from : (x n low : ℕ) (b : Block) → passes x n low b ≡ true → low ≤ b.addr
unfolding passes
passes-from x n low b is = grind (arith, nat_tests)

passes-meets : (x n low : ℕ) (b : Block) → passes x n low b ≡ true → meets x n b.addr b.len ≡ true
unfolding passes
passes-meets x n low b is = by (nat_le low b.addr) is
  where
    by : (t : Bool) → (t && meets x n b.addr b.len) ≡ true → meets x n b.addr b.len ≡ true
    by true h = h
    by false h = cc

in_none : (b : Block) (l : List Block) → l ≡ [] → In b l → ⊥
in_none b l e h = subst (In b) e h

-- no block that is met, from `from` on, has a page before this one, of those that are looked at
abbrev pub NoneBefore : Lengths → ℕ → ℕ → ℕ → ℕ → Type 0
NoneBefore live x n from page = (a len p : ℕ) → from ≤ a → live a ≡ Some len → meets x n a len ≡ true → is_on a len p ≡ true → max x from / 256 ≤ p → page ≤ p

module _ (live : Lengths) (pages : ℕ → List Block) (x n from : ℕ) (index : IsIndex live pages) (some : 0 < n) where
  abbrev first_page : ℕ
  first_page = max x from / 256

  abbrev last_page : ℕ
  last_page = (x + (n - 1)) / 256

  pub none-before : NoneBefore live x n from first_page
  none-before a len p f there met is le = le

  -- the page on which a block that is met is found: its own, or the first that is looked at
  found_on : (a len : ℕ) → from ≤ a → meets x n a len ≡ true → (p : ℕ) × (is_on a len p ≡ true) × (first_page ≤ p) × (p ≤ last_page) × ((q : ℕ) → first_page ≤ q → a / 256 ≤ q → p ≤ q)
  found_on a len f met =
      let m = meets-bounds x n a len met in
      elim (cases_lt (a / 256) first_page) [
        | inl before ↦ elim (cases_lt x from) [
          | inl less ↦ absurd (omega arith)
          | inr more ↦ (first_page, on a len first_page (omega arith) (omega arith), omega arith, omega arith, λ q h k. h)
        ]
        | inr behind ↦ (a / 256, on a len (a / 256) (omega arith) (omega arith), behind, omega arith, λ q h k. k)
      ]

  -- the pages up to the last have none: there is none at all
  pub none-left : (page : ℕ) → NoneBefore live x n from page → ((p : ℕ) → page ≤ p → p ≤ last_page → pages p ≡ []) → NoneMeets live x n from
  none-left page before none a len f there = at (meets x n a len) refl
    where
      at : (t : Bool) → meets x n a len ≡ t → meets x n a len ≡ false
      at false is = is
      at true is =
          let p = found_on a len f is in
          absurd (in_none (block a len) (pages p.0) (none p.0 (before a len p.0 f there is p.1 p.2) p.3) (index.held p.0 a len there p.1))

  -- the next page with blocks has none that is met
  pub passes-page : (page held : ℕ) → NoneBefore live x n from page → ((p : ℕ) → page ≤ p → p < held → pages p ≡ []) → ((b : Block) → In b (pages held) → passes x n from b ≡ false) → NoneBefore live x n from (held + 1)
  passes-page page held before empty none a len p f there met is le =
      let from_page = before a len p f there met is le in
      let inside = index.held p a len there is in
      elim (cases_lt p held) [
        | inl less ↦ absurd (in_none (block a len) (pages p) (empty p from_page less) inside)
        | inr more ↦ elim (cases_lt held p) [
          | inl next ↦ omega arith
          | inr here ↦
              let same : p ≡ held = omega arith in
              let clash : false ≡ true = sym (none (block a len) (subst (λ q. In (block a len) (pages q)) same inside)) ∙ passes-met x n from (block a len) f met in cc
        ]
      ]

  -- it has some: the least is the answer
  pub meets-page : (page held a : ℕ) → first_page ≤ page → page ≤ held → NoneBefore live x n from page → ((p : ℕ) → page ≤ p → p < held → pages p ≡ []) → IsLeastIn (passes x n from) (pages held) a → IsFirst live x n from a
  meets-page page held a start ahead before empty least =
      let b : Block = least.found.0 in
      let inside : In b (pages held) = least.found.1 in
      let at : b.addr ≡ a = least.found.2 in
      let low : from ≤ b.addr = passes-from x n from b least.found.3 in
      record {
        from = omega arith;
        len = b.len;
        here = ap live (sym at) ∙ index.live_there held b inside;
        met = subst (λ q. meets x n q b.len ≡ true) at (passes-meets x n from b least.found.3);
        first = λ c l f less there. by c l f less there (on-bounds b.addr b.len held (index.meets held b inside)).1 at (meets x n c l) refl;
      }
    where
      by : (c l : ℕ) → from ≤ c → c < a → live c ≡ Some l → {k : ℕ} → k < held * 256 + 256 → k ≡ a → (t : Bool) → meets x n c l ≡ t → meets x n c l ≡ false
      by c l f less there within at false is = is
      by c l f less there within at true is =
          let p = found_on c l f is in
          let from_page = before c l p.0 f there is p.1 p.2 in
          let up : p.0 ≤ held = p.4 held (omega arith) (omega arith) in
          let in_p = index.held p.0 c l there p.1 in
          elim (cases_lt p.0 held) [
            | inl lower ↦ absurd (in_none (block c l) (pages p.0) (empty p.0 from_page lower) in_p)
            | inr more ↦
                let same : p.0 ≡ held = omega arith in
                let le = least.least (block c l) (subst (λ q. In (block c l) (pages q)) same in_p) (passes-met x n from (block c l) f is) in
                absurd (omega arith)
          ]

  pub answers-page : (page held : ℕ) (o : Option ℕ) → is_some o ≡ true → first_page ≤ page → page ≤ held → NoneBefore live x n from page → ((p : ℕ) → page ≤ p → p < held → pages p ≡ []) → FirstIn (passes x n from) (pages held) o → Answers live x n from o
  answers-page page held None is start ahead before empty least = let clash : false ≡ true = is in cc
  answers-page page held (Some a) is start ahead before empty least = meets-page page held a start ahead before empty least

pub none-in : (test : Block → Bool) (l : List Block) (o : Option ℕ) → is_some o ≡ false → FirstIn test l o → (b : Block) → In b l → test b ≡ false
none-in test l None is h = h
none-in test l (Some a) is h = let clash : true ≡ false = is in cc

-- of the same lengths
pub told : (live look : Lengths) (x n from : ℕ) (r : Option ℕ) → ((q : ℕ) → live q ≡ look q) → Answers live x n from r → Answers look x n from r
told live look x n from r same a = let one : live ≡ look = λ i q. same q i in subst (λ l. Answers l x n from r) one a
