-- What the host's entry and the publisher's leave as it was.
use Rattle.std.proofs.Common.{◌≡◌, ℕ, zero, suc, cond, true, false, List, [], ◌∷◌, ◌++◌, refl, sym, ap, ◌∙◌, subst}
use Rattle.std.specs.Prelude.{IfSome, slice_get}
use Rattle.std.proofs.lemmas.List.{append-nil}
use Rattle.std.proofs.lemmas.List.Elements.{filter-append}
use Rattle.registry.specs.declared.entry.Entry.{Entry}
use Rattle.registry.specs.declared.entry.Entry.TheVariants.{Map, Replace, Attach, Merge, Detach, Due, Acked, Failed, Finish}
use Rattle.registry.specs.Opening.{Opening}
use Rattle.registry.specs.State.{State, SlotState, with_at}
use Rattle.registry.specs.Registry.{Told, after, after_all, generation_in, slot_in, slot_of, told, told_all}
use Rattle.publisher.specs.Serving.{AreTheirs, is_publishers}
use Rattle.guest_rounds.specs.Calls.{guest_of, is_guest, own}
use Rattle.guest_rounds.specs.Rounds.{AreFree, AreTold}
use Rattle.guest_rounds.proofs.Orders.{told-append}

-- ---- own entries

is_nobodys : (g : ℕ) (e : Entry) → is_publishers e ≡ true → is_guest g (guest_of e) ≡ false
is_nobodys g (Map guest k file) h = absurd (cc)
is_nobodys g (Replace guest k file reply) h = absurd (cc)
is_nobodys g (Attach guest slot file age version) h = absurd (cc)
is_nobodys g (Merge guest slot age addrs reply) h = absurd (cc)
is_nobodys g (Detach guest slot age) h = absurd (cc)
is_nobodys g (Due slot age version) h = refl
is_nobodys g (Acked slot age version) h = refl
is_nobodys g (Failed slot) h = refl
is_nobodys g Finish h = absurd (cc)

own_none : (o : Opening) (s : State) (g : ℕ) (es : List Entry) → AreTheirs es → own g (told_all o s es) ≡ []
own_none o s g [] all = refl
own_none o s g (e ∷ es) all =
    let ts = own g (told_all o (after o s e) es) in
    ap (λ b. cond b (told o s e ∷ ts) ts) (is_nobodys g e all.0) ∙ own_none o (after o s e) g es all.1

own_same : (o : Opening) (s : State) (g : ℕ) (xs es : List Entry) → AreTheirs es → own g (told_all o s (xs ++ Finish ∷ es)) ≡ own g (told_all o s xs)
own_same o s g xs es all =
    ap (λ ts. own g ts) (told-append o s xs (Finish ∷ es))
    ∙ (filter-append (λ t. is_guest g (guest_of t.entry)) (told_all o s xs) (told_all o (after_all o s xs) (Finish ∷ es))
    ∙ (ap (λ ts. own g (told_all o s xs) ++ ts) (own_none o (after o (after_all o s xs) Finish) g es all) ∙ append-nil (own g (told_all o s xs))))

-- guests are told by what they made before
pub told_same : {R : Type 0} (tells : ℕ → List Told → R → Type 0) (o : Opening) (s : State) (xs es : List Entry) (answers : List R) → AreTheirs es → AreTold tells (told_all o s xs) answers
    → AreTold tells (told_all o s (xs ++ Finish ∷ es)) answers
told_same tells o s xs es answers theirs all g = subst (λ ts. IfSome (slice_get answers g) (tells g ts)) (sym (own_same o s g xs es theirs)) (all g)

-- ---- what is held

with_same : (f : SlotState → SlotState) → ((x : SlotState) → (f x).generations ≡ x.generations) → (ss : List SlotState) (slot k : ℕ) → (slot_in (with_at f slot ss) k).generations ≡ (slot_in ss k).generations
with_same f same [] slot k = refl
with_same f same (s ∷ ss) zero zero = same s
with_same f same (s ∷ ss) zero (suc k) = refl
with_same f same (s ∷ ss) (suc slot) zero = refl
with_same f same (s ∷ ss) (suc slot) (suc k) = with_same f same ss slot k

after_same : (o : Opening) (s : State) (e : Entry) (k : ℕ) → is_publishers e ≡ true → (slot_of (after o s e) k).generations ≡ (slot_of s k).generations
after_same o s (Map guest m file) k h = absurd (cc)
after_same o s (Replace guest m file reply) k h = absurd (cc)
after_same o s (Attach guest slot file age version) k h = absurd (cc)
after_same o s (Merge guest slot age addrs reply) k h = absurd (cc)
after_same o s (Detach guest slot age) k h = absurd (cc)
after_same o s (Due slot age version) k h = refl
after_same o s (Acked slot age version) k h = with_same _ (λ x. refl) s.slots slot k
after_same o s (Failed slot) k h = with_same _ (λ x. refl) s.slots slot k
after_same o s Finish k h = absurd (cc)

free_theirs : (o : Opening) (s : State) (es : List Entry) → AreTheirs es → AreFree s → AreFree (after_all o s es)
free_theirs o s [] all free = free
free_theirs o s (e ∷ es) all free =
    free_theirs o (after o s e) es all.1 (λ slot age. ap (λ gs. (generation_in gs age).attached) (after_same o s e slot all.0) ∙ free slot age)

-- what is free stays free
pub free_same : (o : Opening) (s : State) (es : List Entry) → AreTheirs es → AreFree s → AreFree (after_all o s (Finish ∷ es))
free_same o s es all free = free_theirs o (after o s Finish) es all free
