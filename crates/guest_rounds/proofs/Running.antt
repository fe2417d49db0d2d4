-- One guest more.
use Rattle.std.proofs.Common.{◌≡◌, ℕ, ◌+◌, ◌<◌, ◌≤◌, ◌==◌, ◌⊎◌, inl, inr, ⊎_elim, cond, Bool, true, false, List, [], ◌++◌, length, refl, sym, ap, ◌∙◌, subst, arith, set, slice_get, Option, Some, eq-eqb, eqb-true, count_by}
use Rattle.std.proofs.lemmas.List.{append-nil, length-set}
use Rattle.std.proofs.lemmas.List.Elements.{filter-append, All-get_or}
use Rattle.std.proofs.lemmas.List.Sums.{sum_by-append}
use Rattle.std.proofs.lemmas.Bool.{cases_Bool, cases_lt}
use Rattle.std.proofs.lemmas.Option.{unwrap_or-slice_get}
use Rattle.std.specs.Prelude.{IfSome}
use Rattle.std.specs.List.{All, filter_map}
use Rattle.registry.specs.declared.entry.Entry.{Entry}
use Rattle.registry.specs.Opening.{Opening}
use Rattle.registry.specs.Registry.{Told, opened, reg, told_all, AreReplied}
use Rattle.registry.specs.History.{History, state_of, is_attach, is_detach, IsCounted}
use Rattle.registry.specs.Laws.{AreLetGo}
use Rattle.guest_rounds.specs.Calls.{guest_of, is_guest, own, AreBy, Calls, CallsSome, Visits}
use Rattle.guest_rounds.specs.Rounds.{round_of, last_round, ComesBefore, AreInOrder, AreFree, AreTold, IsThere, HasRun, HaveRun, AreCalls}
use Rattle.guest_rounds.proofs.Lists.{set_same, set_other, present_long, present_told}
use Rattle.guest_rounds.proofs.Orders.{told-append, replied-append, finished_by, own_all, own_others, own_past, by_weak, by_one, by-append, order-append}

clash : (b : Bool) → b ≡ true → b ≡ false → ⊥
clash b x y = cc

same_or : (h g : ℕ) → (h ≡ g) ⊎ (h ≡ g → ⊥)
same_or h g = ⊎_elim (λ (t : (h == g) ≡ true). inl (eqb-true h g t)) (λ (f : (h == g) ≡ false). inr (λ (e : h ≡ g). clash (h == g) (eq-eqb h g e) f)) (cases_Bool (h == g))

count-append : (p : Entry → Bool) (xs ys : List Entry) → count_by p (xs ++ ys) ≡ count_by p xs + count_by p ys
count-append p xs ys = sum_by-append (λ x. cond (p x) 1 0) xs ys

go-append : (xs ys : List Entry) → AreLetGo xs → AreLetGo ys → AreLetGo (xs ++ ys)
go-append xs ys all more slot age =
    omega (arith, count-append (is_detach slot age) xs ys, count-append (is_attach slot age) xs ys, all slot age, more slot age)

-- where as many were let go as attached, nobody holds one
pub free : (h : History) → AreLetGo h.journal → IsCounted (state_of h) h.journal → AreFree (state_of h)
free h go counted slot age = omega (arith, go slot age, counted.attached slot age)

own_grows : (h : ℕ) (o : Opening) (j more : List Entry) → own h (told_all o (opened o) (j ++ more)) ≡ own h (told_all o (opened o) j) ++ own h (told_all o (reg o j) more)
own_grows h o j more =
    ap (own h) (told-append o (opened o) j more) ∙ filter-append (λ t. is_guest h (guest_of t.entry)) (told_all o (opened o) j) (told_all o (reg o j) more)

module _ {R : Type 0} (tells : ℕ → List Told → R → Type 0) (rounds : List ℕ) (o : Opening) where
  -- guest g makes P into Q
  have_one : (P Q : ℕ → Type 0) (g : ℕ) (j : List Entry) (new : History) (answers answers' : List (Option R)) (ran : R)
      → HaveRun tells rounds P o (record { opening = o; journal = j }) answers → Visits g (record { opening = o; journal = j }) new (λ ts. tells g ts ran) → answers' ≡ set answers g (Some ran)
      → g < length rounds → (P g → ⊥) → Q g → ((h : ℕ) → P h → Q h) → ((h : ℕ) → (h ≡ g → ⊥) → Q h → P h) → ((h : ℕ) → P h → ComesBefore rounds g h → ⊥)
      → HaveRun tells rounds Q o new answers'
  have_one P Q g j new answers answers' ran r v put within out is more less late =
      let e_j : new.journal ≡ j ++ v.more = ap (λ (h : History). h.journal) v.calls.journal in
      let told_at : (h : ℕ) → List Told = λ h. own h (told_all o (opened o) new.journal) in
      let grown : (h : ℕ) → told_at h ≡ own h (told_all o (opened o) j) ++ own h (told_all o (reg o j) v.more) =
      λ h. ap (λ es. own h (told_all o (opened o) es)) e_j ∙ own_grows h o j v.more in
      let own_g : told_at g ≡ told_all o (reg o j) v.more =
      grown g ∙ (ap (λ us. us ++ own g (told_all o (reg o j) v.more)) (own_past o (opened o) P g j r.by out) ∙ own_all o (reg o j) g v.more v.calls.mine) in
      let own_h : (h : ℕ) → (h ≡ g → ⊥) → told_at h ≡ own h (told_all o (opened o) j) =
      λ h other. grown h ∙ (ap (λ us. own h (told_all o (opened o) j) ++ us) (own_others o (reg o j) g h v.more v.calls.mine other) ∙ append-nil (own h (told_all o (opened o) j))) in
      let there_g : slice_get answers' g ≡ Some (Some ran) = ap (λ (xs : List (Option R)). slice_get xs g) put ∙ set_same answers g (Some ran) (omega (arith, within, r.places)) in
      let there_h : (h : ℕ) → (h ≡ g → ⊥) → slice_get answers' h ≡ slice_get answers h = λ h other. ap (λ (xs : List (Option R)). slice_get xs h) put ∙ set_other answers g h (Some ran) other in
      let told_g : IsThere (tells g (told_at g)) (slice_get answers' g) =
      subst (λ ts. IsThere (tells g ts) (slice_get answers' g)) (sym own_g) (subst (IsThere (tells g (told_all o (reg o j) v.more))) (sym there_g) v.told) in
      let told_h : (h : ℕ) → (h ≡ g → ⊥) → P h → IsThere (tells h (told_at h)) (slice_get answers' h) =
      λ h other p. subst (λ ts. IsThere (tells h ts) (slice_get answers' h)) (sym (own_h h other)) (subst (IsThere (tells h (own h (told_all o (opened o) j)))) (sym (there_h h other)) (r.told h p)) in
      record {
        same = ap (λ (h : History). h.opening) v.calls.journal;
        replied = subst (AreReplied o (opened o)) (sym e_j) (replied-append o (opened o) j v.more r.replied v.calls.replied);
        by = subst (AreBy Q) (sym e_j) (by-append Q j v.more (by_weak P Q j more r.by) (by_one Q g v.more is v.calls.mine));
        in_order = subst (AreInOrder rounds) (sym e_j) (order-append rounds P g j v.more r.in_order r.by v.calls.mine late);
        let_go = subst AreLetGo (sym e_j) (go-append j v.more r.let_go v.let_go);
        places = ap length put ∙ (length-set answers g (Some ran) ∙ r.places);
        told = λ h q. ⊎_elim (λ (i : h ≡ g). subst (λ k. IsThere (tells k (told_at k)) (slice_get answers' k)) (sym i) told_g) (λ (other : h ≡ g → ⊥). told_h h other (less h other q)) (same_or h g);
      }

  -- other words for those that ran
  have_same : (P Q : ℕ → Type 0) (h : History) (answers : List (Option R)) → HaveRun tells rounds P o h answers → ((g : ℕ) → P g → Q g) → ((g : ℕ) → Q g → P g) → HaveRun tells rounds Q o h answers
  have_same P Q h answers r more less = record {
    same = r.same;
    replied = r.replied;
    by = by_weak P Q h.journal more r.by;
    in_order = r.in_order;
    let_go = r.let_go;
    places = r.places;
    told = λ g q. r.told g (less g q);
  }

  opened_so : (P : ℕ → Type 0) (h : History) (answers : List (Option R)) → HaveRun tells rounds P o h answers → h ≡ record { opening = o; journal = h.journal }
  opened_so P h answers r = ap (λ (x : Opening). let y : History = record { opening = x; journal = h.journal } in y) r.same

  pub unfinished : (P : ℕ → Type 0) (h : History) (answers : List (Option R)) → HaveRun tells rounds P o h answers → (state_of h).finished ≡ false
  unfinished P h answers r = finished_by h.opening (opened h.opening) P h.journal r.by

  not_late : (round g h : ℕ) → round_of rounds g ≡ round → HasRun rounds round g h → ComesBefore rounds g h → ⊥
  not_late round g h is p b =
      let less = p.past.before (omega (arith, is, b.early)) in
      let more = b.before (omega (arith, is, p.past.early)) in
      omega (arith, less, more)

  -- the guest is of this round, and ran
  pub have_here : (round g : ℕ) (old new : History) (answers answers' : List (Option R)) (ran : R) → g < length rounds → round_of rounds g ≡ round
      → HaveRun tells rounds (HasRun rounds round g) o old answers → Visits g old new (λ ts. tells g ts ran) → answers' ≡ set answers g (Some ran)
      → HaveRun tells rounds (HasRun rounds round (g + 1)) o new answers'
  have_here round g old new answers answers' ran within is r v put =
      let so = opened_so (HasRun rounds round g) old answers r in
      have_one (HasRun rounds round g) (HasRun rounds round (g + 1)) g old.journal new answers answers' ran
      (subst (λ h. HaveRun tells rounds (HasRun rounds round g) o h answers) so r) (subst (λ h. Visits g h new (λ ts. tells g ts ran)) so v) put within
      (λ p. let less = p.past.before (omega (arith, is)) in omega (arith, less))
      (record { there = within; past = record { early = omega (arith, is); before = λ l. omega arith } })
      (λ h p. record { there = p.there; past = record { early = p.past.early; before = λ l. let less = p.past.before l in omega (arith, less) } })
      (λ h other q. record {
        there = q.there;
        past = record {
          early = q.past.early;
          before = λ l. let less = q.past.before l in
              ⊎_elim (λ (lt : h < g). lt) (λ (ge : g ≤ h). absurd (other (omega (arith, less, ge)))) (cases_lt h g);
        };
      })
      (λ h p. not_late round g h is p)

  -- the guest is of another round
  pub have_past : (round g : ℕ) (h : History) (answers : List (Option R)) → (round_of rounds g ≡ round → ⊥)
      → HaveRun tells rounds (HasRun rounds round g) o h answers → HaveRun tells rounds (HasRun rounds round (g + 1)) o h answers
  have_past round g h answers other r = have_same (HasRun rounds round g) (HasRun rounds round (g + 1)) h answers r
      (λ k p. record { there = p.there; past = record { early = p.past.early; before = λ l. let less = p.past.before l in omega (arith, less) } })
      (λ k q. record {
        there = q.there;
        past = record {
          early = q.past.early;
          before = λ l. let less = q.past.before l in
              ⊎_elim (λ (lt : k < g). lt)
              (λ (ge : g ≤ k). let i : k ≡ g = omega (arith, less, ge) in absurd (other (subst (λ m. round_of rounds m ≡ round) i (omega (arith, q.past.early, l))))) (cases_lt k g);
        };
      })

  -- behind the last guest of a round
  pub have_next : (round n : ℕ) (h : History) (answers : List (Option R)) → n ≡ length rounds
      → HaveRun tells rounds (HasRun rounds round n) o h answers → HaveRun tells rounds (HasRun rounds (round + 1) 0) o h answers
  have_next round n h answers long r = have_same (HasRun rounds round n) (HasRun rounds (round + 1) 0) h answers r
      (λ g p. record { there = p.there; past = record { early = omega (arith, p.past.early); before = λ l. absurd (omega (arith, p.past.early, l)) } })
      (λ g q. record {
        there = q.there;
        past = record {
          early = ⊎_elim (λ (l : round_of rounds g < round + 1). omega (arith, l)) (λ (l : round + 1 ≤ round_of rounds g). let less = q.past.before l in absurd (omega (arith, less))) (cases_lt (round_of rounds g) (round + 1));
          before = λ l. omega (arith, q.there, long);
        };
      })

  -- nobody ran yet
  pub have_none : (h : History) (answers : List (Option R)) → h.journal ≡ [] → h.opening ≡ o → length answers ≡ length rounds → HaveRun tells rounds (HasRun rounds 0 0) o h answers
  have_none h answers empty same places = record {
    same = same;
    replied = subst (AreReplied o (opened o)) (sym empty) tt;
    by = subst (AreBy (HasRun rounds 0 0)) (sym empty) tt;
    in_order = subst (AreInOrder rounds) (sym empty) tt;
    let_go = subst AreLetGo (sym empty) (λ slot age. refl);
    places = places;
    told = λ g p. let less = p.past.before (omega arith) in absurd (omega (arith, less));
  }

  round_few : (g : ℕ) → All (λ round. round ≤ last_round) rounds → g < length rounds → round_of rounds g ≤ last_round
  round_few g all within = subst (λ n. n ≤ last_round) (sym (unwrap_or-slice_get rounds g 0)) (All-get_or (λ round. round ≤ last_round) rounds g 0 within all)

  -- behind the last round all are told
  pub have_all : (round : ℕ) (h : History) (answers : List (Option R)) → All (λ round. round ≤ last_round) rounds → last_round < round → HaveRun tells rounds (HasRun rounds round 0) o h answers
      → (g : ℕ) → g < length answers → IsThere (tells g (own g (told_all o (opened o) h.journal))) (slice_get answers g)
  have_all round h answers few last r g there =
      let within : g < length rounds = omega (arith, there, r.places) in
      let at = round_few g few within in
      r.told g (record { there = within; past = record { early = omega (arith, at, last); before = λ l. absurd (omega (arith, at, last, l)) } })

  -- the guests alone made entries
  pub have_calls : (P : ℕ → Type 0) (h : History) (answers : List (Option R)) → ((g : ℕ) → P g → g < length rounds) → HaveRun tells rounds P o h answers → AreCalls rounds o h
  have_calls P h answers within r = record { same = r.same; replied = r.replied; of_guests = by_weak P (λ g. g < length rounds) h.journal within r.by; in_order = r.in_order }

  -- a guest that came to no end made some
  pub have_some : (round g : ℕ) (old new : History) (answers : List (Option R)) → g < length rounds → round_of rounds g ≡ round
      → HaveRun tells rounds (HasRun rounds round g) o old answers → CallsSome g old new → AreCalls rounds o new
  have_some round g old new answers within is r s =
      let so = opened_so (HasRun rounds round g) old answers r in
      let j = old.journal in
      let c = subst (λ h. Calls g h new s.more) so s.calls in
      let e_j : new.journal ≡ j ++ s.more = ap (λ (h : History). h.journal) c.journal in
      let below : ℕ → Type 0 = λ g. g < length rounds in
      record {
        same = ap (λ (h : History). h.opening) c.journal;
        replied = subst (AreReplied o (opened o)) (sym e_j) (replied-append o (opened o) j s.more r.replied c.replied);
        of_guests = subst (AreBy below) (sym e_j) (by-append below j s.more (by_weak (HasRun rounds round g) below j (λ h p. p.there) r.by) (by_one below g s.more within c.mine));
        in_order = subst (AreInOrder rounds) (sym e_j) (order-append rounds (HasRun rounds round g) g j s.more r.in_order r.by c.mine (λ h p. not_late round g h is p));
      }

  -- behind the last round each answer is there, and is told
  pub all_there : (round : ℕ) (h : History) (answers : List (Option R)) (all : List R) → All (λ round. round ≤ last_round) rounds → last_round < round → HaveRun tells rounds (HasRun rounds round 0) o h answers
      → all ≡ filter_map (λ x. x) answers → length all ≡ length rounds
  all_there round h answers all few last r is =
      ap length is ∙ (present_long (λ g. tells g (own g (told_all o (opened o) h.journal))) answers (have_all round h answers few last r) ∙ r.places)

  pub all_told : (round : ℕ) (h : History) (answers : List (Option R)) (all : List R) → All (λ round. round ≤ last_round) rounds → last_round < round → HaveRun tells rounds (HasRun rounds round 0) o h answers
      → all ≡ filter_map (λ x. x) answers → AreTold tells (told_all o (opened o) h.journal) all
  all_told round h answers all few last r is g =
      let P : ℕ → R → Type 0 = λ g. tells g (own g (told_all o (opened o) h.journal)) in
      subst (λ (xs : List R). IfSome (slice_get xs g) (P g)) (sym is) (present_told P answers (have_all round h answers few last r) g)
