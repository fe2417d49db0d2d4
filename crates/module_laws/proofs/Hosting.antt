-- What a process keeps of its modules while it runs.
use Rattle.std.proofs.Common.{◌≡◌, ℕ, ◌+◌, ◌/◌, true, false, cond, List, [], ◌∷◌, Option, Some, None, refl, sym, ◌∙◌, ap, subst, inl, inr}
use Rattle.std.specs.Prelude.{find}
use Rattle.std.specs.Option.{option_map}
use Rattle.std.specs.Ordering.{nat_cmp, eq_by_cmp}
use Rattle.std.specs.FinMap as fin
use Rattle.std.proofs.lemmas.Bool.{cases_Bool}
use Rattle.cc_base.specs.Image.{Code}
use Rattle.plain_machine.specs.Memory.{without_first}
use Rattle.plain_machine.specs.Calls.{is_module}
use Rattle.plain_machine.specs.Program.{Segment as FileSegment, base_of}
use Rattle.plain_machine.specs.Machine.{Setting}
use Rattle.block_ledger.specs.Ledger.{Ledger, Segment, candidates, offered_to, with_offered}
use Rattle.block_ledger.proofs.Gets.{got-empty, got-insert, tied}
use Rattle.region_laws.specs.Standing.{AllStand}
use Rattle.guest_proc.specs.Kept.{Keeps, image_at}
use Rattle.guest_proc.specs.Maps.{put_to}
use Rattle.guest_proc.specs.Process.{Process}
use Rattle.module_laws.specs.Hosted.{AreHosted}
use Rattle.module_laws.specs.Laws.{BareHosts, FlushKeepsImages, LedgerHosts, OfferKeepsImages, ResultHosts, RunHosts}
use Rattle.module_laws.proofs.Lists.{none-some}

-- ---- nothing is mapped

pub bare-hosts : BareHosts
bare-hosts w p b = record {
  once = λ k. ap (λ ms. find (is_module k) (without_first (is_module k) ms)) b.mapped;
  stands = λ k mapping is. absurd (none-some (find (is_module k) p.state.io.mapped) mapping (ap (find (is_module k)) b.mapped) is);
  apart = λ j k x y at is more here there. absurd (none-some (find (is_module j) p.state.io.mapped) x (ap (find (is_module j)) b.mapped) is);
  own = λ i code is. absurd (none-some (image_at p.ledger i) code (ap (option_map (λ (x : Segment). x.image)) (ap (λ m. fin.get m i) b.segments ∙ got-empty {X = Segment} i)) is);
}

-- ---- what a run keeps

all_kept : (p new : Process) (base : ℕ) (ss : List FileSegment) → Keeps p new → AllStand p.state.memory p.state.io.heap base ss → AllStand new.state.memory new.state.io.heap base ss
all_kept p new base [] k s = tt
all_kept p new base (x ∷ ss) k s = (k.stand (base + x.vaddr) _ s.0, all_kept p new base ss k s.1)

pub run-hosts : RunHosts
run-hosts w old new k h = record {
  once = λ j. ap (λ ms. find (is_module j) (without_first (is_module j) ms)) k.mapped ∙ h.once j;
  stands = λ j mapping is.
      let s = h.stands j mapping (ap (find (is_module j)) (sym k.mapped) ∙ is) in
      record { base = s.base; program = s.program; stands = s.stands; known = s.known; top = s.top; stand = all_kept old new (base_of s.program s.base) s.program.segments k s.stand };
  apart = λ j i a b x p q. h.apart j i a b x (ap (find (is_module j)) (sym k.mapped) ∙ p) (ap (find (is_module i)) (sym k.mapped) ∙ q);
  own = λ i code is.
      let o = h.own i code (sym (k.images i) ∙ is) in
      record { mapping = o.mapping; mapped = ap (find (is_module (i / 4))) k.mapped ∙ o.mapped; starts = o.starts };
}

-- the modules and the regions stay, and so do the images
pub same-hosts : (w : Setting) (old : Process) (led : Ledger) → ((i : ℕ) → image_at led i ≡ image_at old.ledger i) → AreHosted w old → AreHosted w (put_to old old.state led)
same-hosts w old led images h = record {
  once = h.once;
  stands = λ k mapping is. let s = h.stands k mapping is in record { base = s.base; program = s.program; stands = s.stands; known = s.known; top = s.top; stand = s.stand };
  apart = h.apart;
  own = λ i code is. let o = h.own i code (sym (images i) ∙ is) in record { mapping = o.mapping; mapped = o.mapped; starts = o.starts };
}

pub ledger-hosts : LedgerHosts
ledger-hosts w old new led is images h = subst (AreHosted w) (sym is) (same-hosts w old led images h)

pub result-hosts : ResultHosts
result-hosts w old new value is h = subst (AreHosted w) (sym is) (record {
  once = h.once;
  stands = λ k mapping found. let s = h.stands k mapping found in record { base = s.base; program = s.program; stands = s.stands; known = s.known; top = s.top; stand = s.stand };
  apart = h.apart;
  own = λ i code got. let o = h.own i code got in record { mapping = o.mapping; mapped = o.mapped; starts = o.starts };
})

-- ---- offers and flushes

pub image-else : (segments : fin.FinMap nat_cmp Segment) (i j : ℕ) (s : Segment) → eq_by_cmp nat_cmp j i ≡ false → option_map (λ (x : Segment). x.image) (fin.get (fin.insert segments i s) j) ≡ option_map (λ (x : Segment). x.image) (fin.get segments j)
image-else segments i j s other =
    let im : Option Segment → Option Code = option_map (λ (x : Segment). x.image) in
    ap im (got-insert segments i s j) ∙ ap (λ b. im (cond b (Some s) (fin.get segments j))) other

pub image-same : (segments : fin.FinMap nat_cmp Segment) (i j : ℕ) (s : Segment) → eq_by_cmp nat_cmp j i ≡ true → option_map (λ (x : Segment). x.image) (fin.get (fin.insert segments i s) j) ≡ Some s.image
image-same segments i j s same =
    let im : Option Segment → Option Code = option_map (λ (x : Segment). x.image) in
    ap im (got-insert segments i s j) ∙ ap (λ b. im (cond b (Some s) (fin.get segments j))) same

offer_keeps : (i j : ℕ) (led : Ledger) (o : Option Segment) → fin.get led.segments i ≡ o → image_at (offered_to i o led) j ≡ image_at led j
offer_keeps i j led None is = refl
offer_keeps i j led (Some seg) is = elim (cases_Bool (eq_by_cmp nat_cmp j i)) [
  | inl same ↦
      let at : j ≡ i = tied j i same in
      image-same led.segments i j (with_offered seg (candidates seg led)) same ∙ sym (ap (λ n. option_map (λ (x : Segment). x.image) (fin.get led.segments n)) at ∙ ap (option_map (λ (x : Segment). x.image)) is)
  | inr other ↦ image-else led.segments i j (with_offered seg (candidates seg led)) other
]

pub offer-keeps-images : OfferKeepsImages
offer-keeps-images i j led = offer_keeps i j led (fin.get led.segments i) refl

pub flush-keeps-images : FlushKeepsImages
flush-keeps-images led j = refl
