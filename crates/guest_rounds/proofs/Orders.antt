-- Entries of one guest behind those of guests that ran before.
use Rattle.std.proofs.Common.{◌≡◌, ℕ, false, cond, List, [], ◌∷◌, ◌++◌, refl, sym, ap, ◌∙◌, subst, arith, Option, Some, None, eq-eqb, ne_eqb}
use Rattle.std.proofs.lemmas.Option.{same_Some}
use Rattle.std.specs.List.{AllByRecursion}
use Rattle.registry.specs.declared.entry.Entry.{Entry}
use Rattle.registry.specs.declared.entry.Entry.TheVariants.{Map, Replace, Attach, Merge, Detach, Due, Acked, Failed, Finish}
use Rattle.registry.specs.Opening.{Opening}
use Rattle.registry.specs.State.{State}
use Rattle.registry.specs.Registry.{after, after_all, told, told_all, AreReplied}
use Rattle.guest_rounds.specs.Calls.{guest_of, is_guest, own, AreOf, AreBy, IsBy}
use Rattle.guest_rounds.specs.Rounds.{ComesBefore, MayPrecede, AreInOrder}
use Rattle.guest_rounds.proofs.Lists.{all-append, all_weak}

-- ---- behind entries

pub after-append : (o : Opening) (s : State) (xs ys : List Entry) → after_all o s (xs ++ ys) ≡ after_all o (after_all o s xs) ys
after-append o s [] ys = refl
after-append o s (x ∷ xs) ys = after-append o (after o s x) xs ys

pub told-append : (o : Opening) (s : State) (xs ys : List Entry) → told_all o s (xs ++ ys) ≡ told_all o s xs ++ told_all o (after_all o s xs) ys
told-append o s [] ys = refl
told-append o s (x ∷ xs) ys = ap (λ ts. told o s x ∷ ts) (told-append o (after o s x) xs ys)

pub replied-append : (o : Opening) (s : State) (xs ys : List Entry) → AreReplied o s xs → AreReplied o (after_all o s xs) ys → AreReplied o s (xs ++ ys)
replied-append o s [] ys all more = more
replied-append o s (x ∷ xs) ys all more = (all.0, replied-append o (after o s x) xs ys all.1 more)

finished_step : (o : Opening) (s : State) (P : ℕ → Type 0) (e : Entry) → IsBy P (guest_of e) → (after o s e).finished ≡ s.finished
finished_step o s P (Map guest k file) by = refl
finished_step o s P (Replace guest k file reply) by = refl
finished_step o s P (Attach guest slot file age version) by = refl
finished_step o s P (Merge guest slot age addrs reply) by = refl
finished_step o s P (Detach guest slot age) by = refl
finished_step o s P (Due slot age version) by = absurd by
finished_step o s P (Acked slot age version) by = absurd by
finished_step o s P (Failed slot) by = absurd by
finished_step o s P Finish by = absurd by

-- guests finish nothing
pub finished_by : (o : Opening) (s : State) (P : ℕ → Type 0) (es : List Entry) → AreBy P es → (after_all o s es).finished ≡ s.finished
finished_by o s P [] by = refl
finished_by o s P (e ∷ es) by = finished_by o (after o s e) P es by.1 ∙ finished_step o s P e by.0

-- ---- own entries

pub own_all : (o : Opening) (s : State) (g : ℕ) (es : List Entry) → AreOf g es → own g (told_all o s es) ≡ told_all o s es
own_all o s g [] all = refl
own_all o s g (e ∷ es) all =
    let ts = own g (told_all o (after o s e) es) in
    ap (λ b. cond b (told o s e ∷ ts) ts) (ap (is_guest g) all.0 ∙ eq-eqb g g refl) ∙ ap (λ ts. told o s e ∷ ts) (own_all o (after o s e) g es all.1)

own_none : (o : Opening) (s : State) (g : ℕ) (es : List Entry) → AllByRecursion (λ e. is_guest g (guest_of e) ≡ false) es → own g (told_all o s es) ≡ []
own_none o s g [] all = refl
own_none o s g (e ∷ es) all =
    let ts = own g (told_all o (after o s e) es) in
    ap (λ b. cond b (told o s e ∷ ts) ts) all.0 ∙ own_none o (after o s e) g es all.1

-- entries of another guest
pub own_others : (o : Opening) (s : State) (g h : ℕ) (es : List Entry) → AreOf g es → (h ≡ g → ⊥) → own h (told_all o s es) ≡ []
own_others o s g h es all other = own_none o s h es
    (all_weak (λ e. guest_of e ≡ Some g) (λ e. is_guest h (guest_of e) ≡ false) es (λ e is. ap (is_guest h) is ∙ ne_eqb g h (λ i. other (sym i))) all)

not_by : (P : ℕ → Type 0) (g : ℕ) (x : Option ℕ) → (P g → ⊥) → IsBy P x → is_guest g x ≡ false
not_by P g None out by = absurd by
not_by P g (Some h) out by = ne_eqb h g (λ i. out (subst P i by))

-- entries of guests that it is none of
pub own_past : (o : Opening) (s : State) (P : ℕ → Type 0) (g : ℕ) (es : List Entry) → AreBy P es → (P g → ⊥) → own g (told_all o s es) ≡ []
own_past o s P g es by out = own_none o s g es
    (all_weak (λ e. IsBy P (guest_of e)) (λ e. is_guest g (guest_of e) ≡ false) es (λ e b. not_by P g (guest_of e) out b) by)

-- ---- whose they are

is_by : (P Q : ℕ → Type 0) (x : Option ℕ) → ((h : ℕ) → P h → Q h) → IsBy P x → IsBy Q x
is_by P Q None f by = absurd by
is_by P Q (Some h) f by = f h by

pub by_weak : (P Q : ℕ → Type 0) (es : List Entry) → ((h : ℕ) → P h → Q h) → AreBy P es → AreBy Q es
by_weak P Q es f by = all_weak (λ e. IsBy P (guest_of e)) (λ e. IsBy Q (guest_of e)) es (λ e b. is_by P Q (guest_of e) f b) by

pub by_one : (P : ℕ → Type 0) (g : ℕ) (es : List Entry) → P g → AreOf g es → AreBy P es
by_one P g es is all = all_weak (λ e. guest_of e ≡ Some g) (λ e. IsBy P (guest_of e)) es (λ e i. subst (IsBy P) (sym i) is) all

pub by-append : (P : ℕ → Type 0) (xs ys : List Entry) → AreBy P xs → AreBy P ys → AreBy P (xs ++ ys)
by-append P xs ys all more = all-append (λ e. IsBy P (guest_of e)) xs ys all more

-- ---- in order

-- a guest's own entries
pub order_one : (rounds : List ℕ) (g : ℕ) (es : List Entry) → AreOf g es → AreInOrder rounds es
order_one rounds g [] all = tt
order_one rounds g (e ∷ es) all = (
  all_weak (λ f. guest_of f ≡ Some g) (λ f. MayPrecede rounds (guest_of e) (guest_of f)) es (λ f is k h ek fh b.
      let k_is : k ≡ g = same_Some k g (sym ek ∙ all.0) in
      let h_is : h ≡ g = same_Some h g (sym fh ∙ is) in
      let same : ComesBefore rounds g g = subst (λ n. ComesBefore rounds g n) k_is (subst (λ n. ComesBefore rounds n k) h_is b) in
      let less = same.before (omega arith) in
      absurd (omega (arith, less))) all.1,
  order_one rounds g es all.1,
)

precedes : (rounds : List ℕ) (P : ℕ → Type 0) (g : ℕ) (x y : Option ℕ) → IsBy P x → y ≡ Some g → ((k : ℕ) → P k → ComesBefore rounds g k → ⊥) → MayPrecede rounds x y
precedes rounds P g x y by is late k h xk yh b =
    late k (subst (IsBy P) xk by) (subst (λ n. ComesBefore rounds n k) (same_Some h g (sym yh ∙ is)) b)

pub order-append : (rounds : List ℕ) (P : ℕ → Type 0) (g : ℕ) (xs ys : List Entry) → AreInOrder rounds xs → AreBy P xs → AreOf g ys → ((k : ℕ) → P k → ComesBefore rounds g k → ⊥)
    → AreInOrder rounds (xs ++ ys)
order-append rounds P g [] ys in_order by all late = order_one rounds g ys all
order-append rounds P g (x ∷ xs) ys in_order by all late = (
  all-append (λ f. MayPrecede rounds (guest_of x) (guest_of f)) xs ys in_order.0
      (all_weak (λ f. guest_of f ≡ Some g) (λ f. MayPrecede rounds (guest_of x) (guest_of f)) ys (λ f is. precedes rounds P g (guest_of x) (guest_of f) by.0 is late) all),
  order-append rounds P g xs ys in_order.1 by.1 all late,
)
