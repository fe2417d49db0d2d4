-- The begin of a block.
use Rattle.std.proofs.Common.{◌≡◌, ℕ, ◌+◌, ◌-◌, ◌*◌, ◌<◌, ◌≤◌, ◌%◌, true, false, [], ◌∷◌, length, Option, Some, None, Result, Ok, Err, refl, sym, ◌∙◌, ap, subst, arith, inl, inr}
use Rattle.std.specs.Prelude.{find, is_some, slice_index}
use Rattle.std.specs.Cmp.{nat_cmp_total, eq_by_cmp_equiv}
use Rattle.std.specs.Ordering.{nat_cmp, eq_by_cmp}
use Rattle.std.specs.FinMap as fin
use Rattle.std.proofs.lemmas.Bool.Decides.{nat_tests}
use Rattle.std.proofs.lemmas.List.{append-nil}
use Rattle.cc_base.specs.Image.{Code}
use Rattle.cc_base.specs.declared.span.CodeView.{CodeView}
use Rattle.rv_decode.specs.declared.ins.Isa.{Isa}
use Rattle.probe_tools.specs.declared.tool.Tool.{Tool}
use Rattle.plain_machine.specs.declared.access.Access.{Access}
use Rattle.plain_machine.specs.declared.cpu.Cpu.{Cpu}
use Rattle.plain_machine.specs.declared.cpu.Done.TheVariants as done
use Rattle.plain_machine.specs.declared.io.Asked.TheVariants as asked
use Rattle.plain_machine.specs.Memory.{Memory, IsMemory, code_at, code_of, fetched, has_code}
use Rattle.plain_machine.specs.Calls.{Reply, called}
use Rattle.plain_machine.specs.Step.{Outcome, step}
use Rattle.plain_machine.specs.Machine.{State, Unfetched, action, action_at, is_done, replied, stepped}
use Rattle.fragment.specs.Parts.{Parts}
use Rattle.fragment.specs.Build.{built, has_word}
use Rattle.fragment.specs.View.{shown}
use Rattle.fragment.proofs.Values.{has_of}
use Rattle.guest_mem.specs.Results.{Shows}
use Rattle.guest_mem.proofs.MemoryLemmas.{found_ends}
use Rattle.engine.specs.Standing.{state}
use Rattle.engine.proofs.Reach.{fetches, reaches-start}
use Rattle.block_build.specs.Making.{Makes, Taken}
use Rattle.block_book.specs.Clauses.{IsShort}
use Rattle.block_ledger.specs.Ledger.{Ledger, begun, counted, found, is_live, is_private, is_shared, view, wants_room}
use Rattle.block_ledger.specs.Traced.{built_in}
use Rattle.block_ledger.proofs.Gets.{got-insert}
use Rattle.guest_proc.proofs.Fetching.{unfetched-none, built-none}
use Rattle.guest_proc.specs.Fresh.{AreFresh, block_in}
use Rattle.guest_proc.specs.Begun.{AreMade, HasBegun}
use Rattle.guest_proc.specs.Process.{stop_at}
use Rattle.guest_proc.proofs.Put.{found-at}
use Rattle.guest_proc.proofs.Kept.{built-live, built-new, is_none, not_either, view-begun, view_linked}
use Rattle.guest_proc.proofs.Blocks.{no_io}

-- ---- where a word is, a block is

done_reply : (s : State) (r : Reply) → is_done (replied s r) ≡ true
done_reply s (asked.Back span, c, m, io) = refl
done_reply s (asked.Exit status, c, m, io) = refl
done_reply s (asked.Map k, c, m, io) = refl
done_reply s (asked.Unmap k, c, m, io) = refl
done_reply s (asked.Replace k f, c, m, io) = refl
done_reply s (asked.OutputFull, c, m, io) = refl

done_step : (s : State) (o : Outcome) → is_done (stepped s o) ≡ true
done_step s (done.Next, c, m) = refl
done_step s (done.Taken, c, m) = refl
done_step s (done.Touched span, c, m) = refl
done_step s (done.Fault kind, c, m) = refl
done_step s (done.Asked, c, m) = done_reply s (called s.cpu s.memory s.io)

fetched_done : (s : State) (word : ℕ) → fetched s.memory s.cpu.pc ≡ Ok word → action s ≡ Unfetched → ⊥
fetched_done s word is gone =
    let e : stepped s (step word s.cpu s.memory) ≡ Unfetched = ap (λ r. action_at r s) (sym is) ∙ gone in
    let yes_done : is_done Unfetched ≡ true = ap is_done (sym e) ∙ done_step s (step word s.cpu s.memory) in
    absurd (cc)

pub code-there : (cpu : Cpu) (m : Memory) → (word : ℕ) × (fetched m cpu.pc ≡ Ok word) → Shows None (code_at m cpu.pc) → ⊥
code-there cpu m word none = fetched_done (state cpu m no_io) word.0 word.1 (unfetched-none cpu m none no_io)

pub block-there : (cpu : Cpu) (m : Memory) (v : CodeView) (tool : Tool) (max : ℕ) (b : Option Parts) → (word : ℕ) × (fetched m cpu.pc ≡ Ok word) → IsMemory m → cpu.pc % 4 ≡ 0 → Shows (Some v) (code_at m cpu.pc) → b ≡ built (shown v) cpu.pc cpu.isa tool max → b ≡ None → ⊥
block-there cpu m v tool max b word good aligned is made none = fetched_done (state cpu m no_io) word.0 word.1 (built-none cpu m v tool max b good aligned is made none no_io)

code_is : (v : CodeView) (o : Option Code) → Shows (Some v) o → o ≡ Some (shown v)
code_is v None h = absurd h
code_is v (Some c) h = ap Some (rw (h.0, h.1) refl)

pub built-there : (cpu : Cpu) (m : Memory) (v : CodeView) (tool : Tool) (max : ℕ) (b : Option Parts) (block : Parts) → Shows (Some v) (code_at m cpu.pc) → b ≡ built (shown v) cpu.pc cpu.isa tool max → b ≡ Some block → block_in tool max cpu.isa m cpu.pc ≡ Some block
built-there cpu m v tool max b block is made some = ap (λ o. built_in o cpu.pc cpu.isa tool max) (code_is v (code_at m cpu.pc) is) ∙ sym made ∙ some

-- ---- a block is short

word_end : (code : Code) (x : ℕ) → has_word code x ≡ true → x + 4 ≤ code.start + length code.bytes
word_end code x h = grind (arith, nat_tests)

pub block-short : (tool : Tool) (max : ℕ) (isa : Isa) (m : Memory) (a : ℕ) (block : Parts) → 0 < max → max ≤ 64 → IsMemory m → block_in tool max isa m a ≡ Some block → IsShort block
block-short tool max isa m a block some most good is =
    let f = found-at tool max isa m a block some is in
    let n : ℕ = length block.words in
    let last_in : n - 1 < n = omega (arith, f.built.not_empty) in
    let there : block.address + 4 * (n - 1) + 4 ≤ f.region.start + length f.region.bytes = word_end (code_of f.region) (block.address + 4 * (n - 1)) (has_of (code_of f.region) (block.address + 4 * (n - 1)) (f.built.words (n - 1) last_in)) in
    let ends : f.region.start + length f.region.bytes ≤ 4294967295 = found_ends (has_code a 1) m f.region good.in_range (sym f.here) in
    record { some = f.built.not_empty; few = omega (arith, f.built.at_most); ends = omega (arith, f.built.not_empty) }

-- ---- what stands ready once it has begun

live_block : (o : Option Parts) → is_some o ≡ true → (f : Parts) × (o ≡ Some f)
live_block None h = absurd (cc)
live_block (Some f) h = (f, refl)

view-new : (f : Parts) (led : Ledger) → is_live led f.address ≡ false → view (begun f led) f.address ≡ Some f
view-new f led gone =
    let apart = not_either (fin.get led.shared f.address) (fin.get led.private f.address) gone in
    let not_shared : is_shared led f.address ≡ false = apart.0 in
    let not_private : is_private led f.address ≡ false = apart.1 in
    let none : fin.get led.shared f.address ≡ None = is_none (fin.get led.shared f.address) not_shared in
    let self : eq_by_cmp nat_cmp f.address f.address ≡ true = (eq_by_cmp_equiv nat_cmp_total).refl f.address in
    view_linked led.left f.address (found f (counted led)) f.address
    ∙ rw (not_shared, not_private) (rw none (got-insert led.private f.address f f.address ∙ rw self refl))

pub begun-live : (tool : Tool) (max : ℕ) (isa : Isa) (m : Memory) (a : ℕ) (led new : Ledger) → 0 < max → AreFresh tool max isa m led → is_live led a ≡ true → ((f : Parts) → f.address ≡ a → new ≡ begun f led) → HasBegun tool max isa m a led new
begun-live tool max isa m a led new some fresh live is =
    let f = live_block (view led a) live in
    let at : f.0.address ≡ a = (found-at tool max isa m a f.0 some (fresh a f.0 f.1)).at in
    let after : new ≡ begun f.0 led = is f.0 at in
    let seen : view (begun f.0 led) a ≡ Some f.0 = elim (view-begun f.0 led a) [ inl same ↦ same ∙ f.1 | inr here ↦ here.1 ] in
    record { block = f.0; at = at; fresh = fresh a f.0 f.1; ready = ap (λ l. view l a) after ∙ seen; here = ap (λ l. l.block) after ∙ at; ledger = after }

pub begun-new : (tool : Tool) (max : ℕ) (isa : Isa) (m : Memory) (a : ℕ) (led new : Ledger) (f : Parts) → 0 < max → block_in tool max isa m a ≡ Some f → is_live led a ≡ false → new ≡ begun f led → HasBegun tool max isa m a led new
begun-new tool max isa m a led new f some fresh gone after =
    let at : f.address ≡ a = (found-at tool max isa m a f some fresh).at in
    let seen : view (begun f led) a ≡ Some f = subst (λ x. view (begun f led) x ≡ Some f) at (view-new f led (subst (λ x. is_live led x ≡ false) (sym at) gone)) in
    record { block = f; at = at; fresh = fresh; ready = ap (λ l. view l a) after ∙ seen; here = ap (λ l. l.block) after ∙ at; ledger = after }

pub absent-new : (tool : Tool) (max : ℕ) (isa : Isa) (m : Memory) (a : ℕ) (led : Ledger) (f : Parts) → 0 < max → block_in tool max isa m a ≡ Some f → is_live led a ≡ false → is_live led f.address ≡ false
absent-new tool max isa m a led f some fresh gone = subst (λ x. is_live led x ≡ false) (sym (found-at tool max isa m a f some fresh).at) gone

-- ---- no stop comes before it

-- a block that stands ready can be fetched
live_word : (tool : Tool) (max : ℕ) (cpu : Cpu) (m : Memory) (led : Ledger) → 0 < max → IsMemory m → AreFresh tool max cpu.isa m led → is_live led cpu.pc ≡ true → (word : ℕ) × (fetched m cpu.pc ≡ Ok word)
live_word tool max cpu m led some good fresh live =
    let f = live_block (view led cpu.pc) live in
    let there = found-at tool max cpu.isa m cpu.pc f.0 some (fresh cpu.pc f.0 f.1) in
    let here : find (has_code f.0.address 1) m ≡ Some there.region = subst (λ x. find (has_code x 1) m ≡ Some there.region) (sym there.at) there.here in
    let reach = reaches-start cpu.isa max there.region f.0 0 (state cpu m no_io) (sym there.at) refl good here in
    let word : ℕ = slice_index f.0.words 0 in
    let got = fetches cpu.isa tool max there.region f.0 0 (state cpu m no_io) 0 0 word (state cpu m no_io) there.built there.built.not_empty refl reach in
    (word, got.fetch)

pub stop-live : (pool : ℕ) (tool : Tool) (max : ℕ) (cpu : Cpu) (m : Memory) (led : Ledger) → 0 < max → IsMemory m → AreFresh tool max cpu.isa m led → is_live led cpu.pc ≡ true → stop_at pool led cpu.pc (fetched m cpu.pc) ≡ None
stop-live pool tool max cpu m led some good fresh live =
    let word = live_word tool max cpu m led some good fresh live in
    let room : wants_room pool led cpu.pc ≡ false = rw live refl in
    rw word.1 (rw room refl)

no_err : (pool : ℕ) (led : Ledger) (pc : ℕ) (r : Result ℕ Access) → stop_at pool led pc r ≡ None → (word : ℕ) × (r ≡ Ok word)
no_err pool led pc (Ok word) e = (word, refl)
no_err pool led pc (Err a) e = absurd (cc)

pub word-there : (pool : ℕ) (led : Ledger) (m : Memory) (pc : ℕ) → None ≡ stop_at pool led pc (fetched m pc) → (word : ℕ) × (fetched m pc ≡ Ok word)
word-there pool led m pc e = no_err pool led pc (fetched m pc) (sym e)

-- ---- what was built

pub made-live : (tool : Tool) (max : ℕ) (isa : Isa) (m : Memory) (a : ℕ) (led new : Ledger) (steps : ℕ) (taken : Taken) → is_live led a ≡ true → HasBegun tool max isa m a led new → AreMade led.counts.built new.counts.built steps steps taken taken
made-live tool max isa m a led new steps taken live b =
    let live' : is_live led b.block.address ≡ true = subst (λ x. is_live led x ≡ true) (sym b.at) live in
    let same : new.counts.built ≡ led.counts.built = ap (λ l. l.counts.built) b.ledger ∙ built-live b.block led live' in
    record { later = omega arith; more = []; took = sym (append-nil taken); sum = omega (arith, same) }

made_by : (a n k steps now : ℕ) (taken last : Taken) (f : Parts) → n ≡ k + 1 → Makes a (Some f) steps now taken last → AreMade k n steps now taken last
made_by a n k steps now taken last f one (inl counts) = record { later = omega (arith, counts.0); more = []; took = counts.1 ∙ sym (append-nil taken); sum = omega (arith, counts.0) }
made_by a n k steps now taken last f one (inr took) = record { later = omega (arith, took.0); more = (a, took.1.0) ∷ []; took = took.1.1; sum = omega (arith, took.0) }

pub made-new : (a steps now : ℕ) (taken last : Taken) (led new : Ledger) (f : Parts) → is_live led f.address ≡ false → new ≡ begun f led → Makes a (Some f) steps now taken last → AreMade led.counts.built new.counts.built steps now taken last
made-new a steps now taken last led new f gone after made =
    made_by a new.counts.built led.counts.built steps now taken last f (ap (λ l. l.counts.built) after ∙ built-new f led gone) made
