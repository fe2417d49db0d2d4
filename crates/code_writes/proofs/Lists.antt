-- Blocks in a list.
use Rattle.std.proofs.Common.{◌≡◌, ◌≢◌, ℕ, ◌+◌, ◌<◌, ◌⊎◌, Bool, true, false, cond, List, [], ◌∷◌, ◌++◌, length, Option, Some, None, Ok, Err, refl, sym, ◌∙◌, ap, subst, arith, inl, inr, suc, take, get_or, eq-eqb, ne_eqb}
use Rattle.std.proofs.Math.Seq.{take-suc}
use Rattle.std.specs.Prelude.{not, min, Result, OnErr}
use mathlib.Core.Logic.{dite}
use native.Mathlib.Decide.{ℕ_discrete}
use Rattle.std.proofs.lemmas.Bool.{cases_lt}
use Rattle.code_writes.specs.Block.{In, without, least_of, FirstIn}
use Rattle.code_writes.specs.declared.page.Block.{Block}

pub In-left : (b : Block) (xs ys : List Block) → In b xs → In b (xs ++ ys)
In-left b [] ys h = absurd h
In-left b (x ∷ xs) ys (inl here) = inl here
In-left b (x ∷ xs) ys (inr later) = inr (In-left b xs ys later)

pub In-last : (b c : Block) (xs : List Block) → b ≡ c → In b (xs ++ c ∷ [])
In-last b c [] e = inl e
In-last b c (x ∷ xs) e = inr (In-last b c xs e)

pub In-cases : (b c : Block) (xs : List Block) → In b (xs ++ c ∷ []) → In b xs ⊎ (b ≡ c)
In-cases b c [] (inl here) = inr here
In-cases b c [] (inr later) = absurd later
In-cases b c (x ∷ xs) (inl here) = inl (inl here)
In-cases b c (x ∷ xs) (inr later) = elim (In-cases b c xs later) [ inl before ↦ inl (inr before) | inr is ↦ inr is ]

-- the list without what begins at an address
kept : (addr : ℕ) (x : Block) (xs : List Block) → x.addr ≢ addr → without addr (x ∷ xs) ≡ x ∷ without addr xs
kept addr x xs other = ap (λ t. cond (not t) (x ∷ without addr xs) (without addr xs)) (ne_eqb x.addr addr other)

gone : (addr : ℕ) (x : Block) (xs : List Block) → x.addr ≡ addr → without addr (x ∷ xs) ≡ without addr xs
gone addr x xs same = ap (λ t. cond (not t) (x ∷ without addr xs) (without addr xs)) (eq-eqb x.addr addr same)

pub In-without : (addr : ℕ) (b : Block) (xs : List Block) → In b xs → b.addr ≢ addr → In b (without addr xs)
In-without addr b [] h other = absurd h
In-without addr b (x ∷ xs) h other = dite (ℕ_discrete x.addr addr)
    (λ same. subst (In b) (sym (gone addr x xs same)) (elim h [ inl here ↦ absurd (other (ap (λ c. c.addr) here ∙ same)) | inr later ↦ In-without addr b xs later other ]))
    (λ apart. subst (In b) (sym (kept addr x xs apart)) (elim h [ inl here ↦ inl here | inr later ↦ inr (In-without addr b xs later other) ]))

pub without-In : (addr : ℕ) (b : Block) (xs : List Block) → In b (without addr xs) → In b xs × (b.addr ≢ addr)
without-In addr b [] h = absurd h
without-In addr b (x ∷ xs) h = dite (ℕ_discrete x.addr addr)
    (λ same. let rest = without-In addr b xs (subst (In b) (gone addr x xs same) h) in (inr rest.0, rest.1))
    (λ apart. elim (subst (In b) (kept addr x xs apart) h) [
      | inl here ↦ (inl here, λ e. apart (ap (λ c. c.addr) (sym here) ∙ e))
      | inr later ↦ let rest = without-In addr b xs later in (inr rest.0, rest.1)
    ])

pub without-push : (c : Block) (xs : List Block) → without c.addr (xs ++ c ∷ []) ≡ without c.addr xs
without-push c [] = gone c.addr c [] refl
without-push c (x ∷ xs) = dite (ℕ_discrete x.addr c.addr)
    (λ same. gone c.addr x (xs ++ c ∷ []) same ∙ without-push c xs ∙ sym (gone c.addr x xs same))
    (λ apart. kept c.addr x (xs ++ c ∷ []) apart ∙ ap (λ l. x ∷ l) (without-push c xs) ∙ sym (kept c.addr x xs apart))

-- one block more
module _ (test : Block → Bool) (xs : List Block) (c : Block) where
  pub first-passed : (o : Option ℕ) → test c ≡ false → FirstIn test xs o → FirstIn test (xs ++ c ∷ []) o
  first-passed None out h = λ b inside. elim (In-cases b c xs inside) [ inl before ↦ h b before | inr is ↦ ap test is ∙ out ]
  first-passed (Some a) out h = record {
    found = let f = h.found in (f.0, In-left f.0 xs (c ∷ []) f.1, f.2, f.3);
    least = λ b inside yes. elim (In-cases b c xs inside) [ inl before ↦ h.least b before yes | inr is ↦ let clash : false ≡ true = sym (ap test is ∙ out) ∙ yes in cc ];
  }

  pub first-met : (o : Option ℕ) → test c ≡ true → FirstIn test xs o → FirstIn test (xs ++ c ∷ []) (Some (least_of o c.addr))
  first-met None pass h = record {
    found = (c, In-last c c xs refl, refl, pass);
    least = λ b inside met. elim (In-cases b c xs inside) [ inl before ↦ let clash : false ≡ true = sym (h b before) ∙ met in cc | inr is ↦ let e = ap (λ d. d.addr) is in omega arith ];
  }
  first-met (Some a) pass h = record {
    found = elim (cases_lt a c.addr) [
      | inl less ↦ let f = h.found in let e : min a c.addr ≡ a = omega arith in (f.0, In-left f.0 xs (c ∷ []) f.1, f.2 ∙ sym e, f.3)
      | inr more ↦ let e : min a c.addr ≡ c.addr = omega arith in (c, In-last c c xs refl, sym e, pass)
    ];
    least = λ b inside met. elim (In-cases b c xs inside) [
      | inl before ↦ let le = h.least b before met in omega arith
      | inr is ↦ let e = ap (λ d. d.addr) is in omega arith
    ];
  }

-- a fact, where an Err asks for it
pub err_as : {A E P : Type 0} (r : Result A E) → P → OnErr r P
err_as (Ok v) h = tt
err_as (Err e) h = h

-- the items up to the next one
pub take-more : {A : Type 0} (xs : List A) (i : ℕ) (d : A) → i < length xs → take (i + 1) xs ≡ take i xs ++ (get_or xs i d ∷ [])
take-more xs i d within = let next : i + 1 ≡ suc i = omega arith in ap (λ j. take j xs) next ∙ take-suc xs i d within
