-- What a change of the lists of pages makes of the index.
use Rattle.std.proofs.Common.{◌≡◌, ◌≢◌, ℕ, Bool, true, false, cond, eqb, List, [], ◌∷◌, ◌++◌, ◌⊎◌, ◌+◌, ◌<◌, ◌≤◌, Some, None, Ok, Err, refl, sym, ◌∙◌, ap, subst, inl, inr, arith, eq-eqb, ne_eqb, lt-ltb, le-ltb, le_refl}
use Rattle.std.specs.Prelude.{Result, OnOk, OnErr, is_err}
use Rattle.std.specs.Ordering.{nat_cmp, is_eq}
use Rattle.std.specs.declared.cmp.Ordering.TheVariants.{Less, Equal, Greater}
use Rattle.std.specs.BTreeMap.{is_at}
use mathlib.Core.Logic.{dite}
use native.Mathlib.Decide.{ℕ_discrete}
use Rattle.std.proofs.lemmas.Bool.{cases_lt}
use Rattle.code_writes.specs.Meeting.{Lengths, AreShort}
use Rattle.code_writes.specs.Block.{block, In, is_on, without}
use Rattle.code_writes.specs.Index.{IsIndex}
use Rattle.code_writes.specs.declared.page.Block.{Block}
use Rattle.code_writes.proofs.Lists.{In-left, In-last, In-cases, In-without, without-In, without-push}

-- the test of a key, at this key and at others
pub at_same : (k : ℕ) → is_at (nat_cmp k) k ≡ true
at_same k = ap (λ b. is_eq (cond b Less (cond (eqb k k) Equal Greater))) (le-ltb k k (le_refl k)) ∙ ap (λ b. is_eq (cond b Equal Greater)) (eq-eqb k k refl)

pub at_other : (k q : ℕ) → q ≢ k → is_at (nat_cmp k) q ≡ false
at_other k q n = elim (cases_lt k q) [
  | inl less ↦ ap (λ b. is_eq (cond b Less (cond (eqb k q) Equal Greater))) (lt-ltb k q less)
  | inr more ↦ ap (λ b. is_eq (cond b Less (cond (eqb k q) Equal Greater))) (le-ltb k q more) ∙ ap (λ b. is_eq (cond b Equal Greater)) (ne_eqb k q (λ e. n (sym e)))
]

pub same_value : (a b : ℕ) → Some a ≡ Some b → a ≡ b
same_value a b e = cc

module _ (live now : Lengths) (pages after : ℕ → List Block) (addr len : ℕ) (index : IsIndex live pages) where
  -- the block at an address goes
  pub cut-index : ((l : ℕ) → live addr ≡ Some l → l ≡ len) → now addr ≡ None → ((q : ℕ) → q ≢ addr → now q ≡ live q) → ((p : ℕ) → after p ≡ cond (is_on addr len p) (without addr (pages p)) (pages p)) → IsIndex now after
  cut-index was gone others cut = record {
    held = λ p a l there met.
        let apart : a ≢ addr = λ e. let clash : None ≡ Some l = sym gone ∙ (ap now (sym e) ∙ there) in cc in
        let inside = index.held p a l (sym (others a apart) ∙ there) met in
        subst (In (block a l)) (sym (cut p)) (stays (is_on addr len p) (block a l) (pages p) apart inside);
    meets = λ p b inside. index.meets p b (before p b inside).0;
    live_there = λ p b inside. let was_in = before p b inside in others b.addr was_in.1 ∙ index.live_there p b was_in.0;
  }
    where
      stays : (t : Bool) (b : Block) (l : List Block) → b.addr ≢ addr → In b l → In b (cond t (without addr l) l)
      stays true b l apart h = In-without addr b l h apart
      stays false b l apart h = h

      before : (p : ℕ) (b : Block) → In b (after p) → In b (pages p) × (b.addr ≢ addr)
      before p b inside = at (is_on addr len p) refl (subst (In b) (cut p) inside)
        where
          at : (t : Bool) → is_on addr len p ≡ t → In b (cond t (without addr (pages p)) (pages p)) → In b (pages p) × (b.addr ≢ addr)
          at true is h = without-In addr b (pages p) h
          at false is h = (
            h,
            λ e.
                let there : live addr ≡ Some b.len = ap live (sym e) ∙ index.live_there p b h in
                let same : b.len ≡ len = was b.len there in
                let clash : true ≡ false = sym (index.meets p b h) ∙ ((λ i. is_on (e i) (same i) p) ∙ is) in cc,
          )

  -- a block comes
  pub add-index : live addr ≡ None → now addr ≡ Some len → ((q : ℕ) → q ≢ addr → now q ≡ live q) → ((p : ℕ) → after p ≡ cond (is_on addr len p) (pages p ++ block addr len ∷ []) (pages p)) → IsIndex now after
  add-index none here others added = record {
    held = λ p a l there met. dite (ℕ_discrete a addr)
        (λ e. let same : l ≡ len = same_value l len (sym there ∙ (ap now e ∙ here)) in
        let new : is_on addr len p ≡ true = (λ i. is_on (sym e i) (sym same i) p) ∙ met in
        subst (In (block a l)) (sym (added p ∙ ap (λ t. cond t (pages p ++ block addr len ∷ []) (pages p)) new)) (In-last (block a l) (block addr len) (pages p) (λ i. block (e i) (same i))))
        (λ apart. subst (In (block a l)) (sym (added p)) (stays (is_on addr len p) (block a l) (pages p) (index.held p a l (sym (others a apart) ∙ there) met)));
    meets = λ p b inside. elim (before p b inside) [
      | inl was ↦ index.meets p b was
      | inr new ↦ (λ i. is_on ((new.0 i).addr) ((new.0 i).len) p) ∙ new.1
    ];
    live_there = λ p b inside. elim (before p b inside) [
      | inl was ↦ let there = index.live_there p b was in others b.addr (λ e. let clash : None ≡ Some b.len = sym none ∙ (ap live (sym e) ∙ there) in cc) ∙ there
      | inr new ↦ ap (λ c. now c.addr) new.0 ∙ (here ∙ ap (λ c. Some c.len) (sym new.0))
    ];
  }
    where
      stays : (t : Bool) (b : Block) (l : List Block) → In b l → In b (cond t (l ++ block addr len ∷ []) l)
      stays true b l h = In-left b l (block addr len ∷ []) h
      stays false b l h = h

      before : (p : ℕ) (b : Block) → In b (after p) → In b (pages p) ⊎ ((b ≡ block addr len) × (is_on addr len p ≡ true))
      before p b inside = at (is_on addr len p) refl (subst (In b) (added p) inside)
        where
          at : (t : Bool) → is_on addr len p ≡ t → In b (cond t (pages p ++ block addr len ∷ []) (pages p)) → In b (pages p) ⊎ ((b ≡ block addr len) × (is_on addr len p ≡ true))
          at true is h = elim (In-cases b (block addr len) (pages p) h) [ inl was ↦ inl was | inr new ↦ inr (new, is) ]
          at false is h = inl h

-- the lengths stay short
pub short-cut : (live now : Lengths) (addr : ℕ) → AreShort live → now addr ≡ None → ((q : ℕ) → q ≢ addr → now q ≡ live q) → AreShort now
short-cut live now addr short gone others a len there = dite (ℕ_discrete a addr)
    (λ e. let clash : None ≡ Some len = sym gone ∙ (ap now (sym e) ∙ there) in cc)
    (λ apart. short a len (sym (others a apart) ∙ there))

-- one more short length
pub short-add : (live now : Lengths) (addr len : ℕ) → AreShort live → 0 < len → len ≤ 256 → addr + len ≤ 4294967295 → now addr ≡ Some len → ((q : ℕ) → q ≢ addr → now q ≡ live q) → AreShort now
short-add live now addr len short some few within here others a l there = dite (ℕ_discrete a addr)
    (λ e. let same : l ≡ len = same_value l len (sym there ∙ (ap now e ∙ here)) in (omega arith, omega arith, omega arith))
    (λ apart. short a l (sym (others a apart) ∙ there))

-- a block that came goes again
pub cut-added : (b : Block) (l m n : List Block) (t : Bool) → m ≡ cond t (l ++ b ∷ []) l → n ≡ cond t (without b.addr m) m → n ≡ cond t (without b.addr l) l
cut-added b l m n true is_m is_n = is_n ∙ ap (without b.addr) is_m ∙ without-push b l
cut-added b l m n false is_m is_n = is_n ∙ is_m

-- a fact on Ok or on Err, by the test
pub on_err : {A E P : Type 0} (r : Result A E) → is_err r ≡ true → OnErr r P → P
on_err (Ok v) is h = let clash : false ≡ true = is in cc
on_err (Err e) is h = h

pub on_ok : {A E P : Type 0} (r : Result A E) → is_err r ≡ false → OnOk r P → P
on_ok (Ok v) is h = h
on_ok (Err e) is h = let clash : true ≡ false = is in cc
