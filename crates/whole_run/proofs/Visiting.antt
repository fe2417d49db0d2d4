-- What a guest that is lent a registry leaves in its journal.
use Rattle.std.proofs.Common.{◌≡◌, ℕ, ◌+◌, cond, Bool, List, [], ◌∷◌, ◌++◌, map, refl, sym, ap, ◌∙◌, subst, arith, count_by}
use Rattle.std.proofs.lemmas.List.{append-nil, append_cancel_left, map-append}
use Rattle.std.proofs.lemmas.List.Sums.{sum_by-append}
use Rattle.registry.specs.declared.entry.Entry.{Entry}
use Rattle.registry.specs.Opening.{Opening}
use Rattle.registry.specs.State.{State}
use Rattle.registry.specs.Registry.{Told, AreReplied, after, after_all, opened, told_all}
use Rattle.registry.specs.History.{History, is_attach, is_detach, state_of}
use Rattle.registry.specs.Laws.{AreLetGo}
use Rattle.registrar.specs.Calls.{holder_of}
use Rattle.registrar.proofs.Counts.{count-told}
use Rattle.guest_rounds.specs.Calls.{Calls, CallsSome, Visits}
use Rattle.guest_rounds.proofs.Orders.{told-append}
use Rattle.guest_answers.specs.Entries.{AreEven, Grows}

abbrev entries_of : List Told → List Entry
entries_of ts = map (λ t. t.entry) ts

entries_told : (o : Opening) (s : State) (es : List Entry) → entries_of (told_all o s es) ≡ es
entries_told o s [] = refl
entries_told o s (e ∷ es) = ap (λ xs. e ∷ xs) (entries_told o (after o s e) es)

replied_rest : (o : Opening) (s : State) (xs ys : List Entry) → AreReplied o s (xs ++ ys) → AreReplied o (after_all o s xs) ys
replied_rest o s [] ys all = all
replied_rest o s (x ∷ xs) ys all = replied_rest o (after o s x) xs ys all.1

-- ---- the journal

module _ (old new : History) (more : List Told) where
  journal_more : (holder_of new).own ≡ (holder_of old).own ++ more → new.journal ≡ old.journal ++ entries_of more
  journal_more is =
      sym (entries_told new.opening (opened new.opening) new.journal)
      ∙ (ap (λ ts. entries_of ts) is
      ∙ (map-append (λ (t : Told). t.entry) (holder_of old).own more ∙ ap (λ (es : List Entry). es ++ entries_of more) (entries_told old.opening (opened old.opening) old.journal)))

  history_more : new.opening ≡ old.opening → (holder_of new).own ≡ (holder_of old).own ++ more → new ≡ record old { journal = old.journal ++ entries_of more }
  history_more same is =
      ap (λ (o : Opening). let h : History = record { opening = o; journal = new.journal } in h) same
      ∙ ap (λ (es : List Entry). let h : History = record { opening = old.opening; journal = es } in h) (journal_more is)

  told_more : new.opening ≡ old.opening → (holder_of new).own ≡ (holder_of old).own ++ more → more ≡ told_all old.opening (state_of old) (entries_of more)
  told_more same is =
      let o = old.opening in
      append_cancel_left (holder_of old).own more (told_all o (state_of old) (entries_of more))
      (sym is ∙ (ap (λ (h : History). (holder_of h).own) (history_more same is) ∙ told-append o (opened o) old.journal (entries_of more)))

-- ---- what it let go

count-append : (p : Entry → Bool) (xs ys : List Entry) → count_by p (xs ++ ys) ≡ count_by p xs + count_by p ys
count-append p xs ys = sum_by-append (λ x. cond (p x) 1 0) xs ys

go_rest : (xs ys : List Entry) → AreLetGo xs → AreLetGo (xs ++ ys) → AreLetGo ys
go_rest xs ys first all slot age =
    omega (arith, count-append (is_detach slot age) xs ys, count-append (is_attach slot age) xs ys, first slot age, all slot age)

pub even_goes : (h : History) → AreEven (holder_of h).own → AreLetGo h.journal
even_goes h even slot age =
    omega (arith, even slot age, count-told (is_detach slot age) h.opening (opened h.opening) h.journal, count-told (is_attach slot age) h.opening (opened h.opening) h.journal)

pub goes_even : (h : History) → AreLetGo h.journal → AreEven (holder_of h).own
goes_even h go slot age =
    omega (arith, go slot age, count-told (is_detach slot age) h.opening (opened h.opening) h.journal, count-told (is_attach slot age) h.opening (opened h.opening) h.journal)

-- ---- its calls

calls_of : (g : ℕ) (old new : History) (grows : Grows g (holder_of old) (holder_of new)) → AreReplied new.opening (opened new.opening) new.journal → Calls g old new (entries_of grows.more)
calls_of g old new grows replied =
    let is = history_more old new grows.more grows.opening grows.own in
    record {
      journal = is;
      mine = grows.mine;
      replied = replied_rest old.opening (opened old.opening) old.journal (entries_of grows.more) (subst (λ (h : History). AreReplied h.opening (opened h.opening) h.journal) is replied);
    }

pub calls_some : (g : ℕ) (old new : History) → Grows g (holder_of old) (holder_of new) → AreReplied new.opening (opened new.opening) new.journal → CallsSome g old new
calls_some g old new grows replied = record { more = entries_of grows.more; calls = calls_of g old new grows replied }

pub calls_none : (g : ℕ) (h : History) → CallsSome g h h
calls_none g h = record {
  more = [];
  calls = record { journal = ap (λ (es : List Entry). let x : History = record { opening = h.opening; journal = es } in x) (sym (append-nil h.journal)); mine = tt; replied = tt };
}

pub visits : (g : ℕ) (old new : History) (mine : List Told) (Tells : List Told → Type 0) → Grows g (holder_of old) (holder_of new) → AreReplied new.opening (opened new.opening) new.journal
    → AreLetGo old.journal → AreEven (holder_of new).own → (holder_of new).own ≡ (holder_of old).own ++ mine → Tells mine → Visits g old new Tells
visits g old new mine Tells grows replied first even is tells =
    let same : mine ≡ grows.more = append_cancel_left (holder_of old).own mine grows.more (sym is ∙ grows.own) in
    let told = told_more old new grows.more grows.opening grows.own in
    record {
      more = entries_of grows.more;
      calls = calls_of g old new grows replied;
      let_go = go_rest old.journal (entries_of grows.more) first (subst AreLetGo (journal_more old new grows.more grows.own) (even_goes new even));
      told = subst Tells (same ∙ told) tells;
    }
