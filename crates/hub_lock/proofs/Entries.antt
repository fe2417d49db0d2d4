-- Entries of a journal, by their places.
use Rattle.std.proofs.Common.{◌≡◌, ℕ, zero, suc, ◌+◌, ◌-◌, ◌<◌, ◌≤◌, List, [], ◌∷◌, ◌++◌, length, sym, refl, ap, ◌∙◌, subst, inl, inr, arith, cond, nat_lt, lt-ltb, le-ltb, le_refl, length-append, get_or, ⊎_elim, Bool, true, false}
use mathlib.Core.Logic.{dite}
use native.Mathlib.Decide.{dec_le}
use Rattle.std.specs.List.{Contains}
use Rattle.hub_lock.specs.Merge.{IsMerged}
use Rattle.hub_lock.specs.Places.{only, times, between, pick, picked, mine, others, StartsWith, IsWithin, longer, shorter}
use Rattle.hub_lock.proofs.Sums.{total-append, only-same, only-other, between-in}

pub append_nil : {A : Type 0} (xs : List A) → xs ++ [] ≡ xs
append_nil [] = refl
append_nil (x ∷ xs) = ap (λ l. x ∷ l) (append_nil xs)

pub append_assoc : {A : Type 0} (xs ys zs : List A) → (xs ++ ys) ++ zs ≡ xs ++ (ys ++ zs)
append_assoc [] ys zs = refl
append_assoc (x ∷ xs) ys zs = ap (λ l. x ∷ l) (append_assoc xs ys zs)

-- two lists with one entry more are the same only where the entries are
pub last_same : {A : Type 0} (xs : List A) (x y : A) → xs ++ x ∷ [] ≡ xs ++ y ∷ [] → x ≡ y
last_same {A} xs x y e = sym (last_is x xs x) ∙ (ap (last_or x) e ∙ last_is x xs y)
  where
    last_or : A → List A → A
    last_or d [] = d
    last_or d (z ∷ zs) = last_or z zs

    last_is : (d : A) (zs : List A) (z : A) → last_or d (zs ++ z ∷ []) ≡ z
    last_is d [] z = refl
    last_is d (w ∷ zs) z = last_is w zs z

-- places: those of two lists, and one more
pub times-both : (p : ℕ) (own more : List ℕ) → times p (own ++ more) ≡ times p own + times p more
times-both p own more = total-append (only p) own more

pub times-push : (p : ℕ) (own : List ℕ) (place : ℕ) → times p (own ++ place ∷ []) ≡ times p own + only p place
times-push p own place = omega (arith, total-append (only p) own (place ∷ []))

module _ {E : Type 0} where
  pub starts_long : (log seen : List E) → StartsWith log seen → length seen ≤ length log
  starts_long log seen s = omega (arith, ap length s.1, length-append seen s.0)

  pub starts_same : (log : List E) → StartsWith log log
  starts_same log = ([], sym (append_nil log))

  pub starts_none : (log : List E) → StartsWith log []
  starts_none log = (log, refl)

  -- two choices of places that agree pick the same entries
  pub picked-ext : (f g : ℕ → ℕ) (k : ℕ) (es : List E) → ((p : ℕ) → k ≤ p → p < k + length es → f p ≡ g p) → picked f k es ≡ picked g k es
  picked-ext f g k [] h = refl
  picked-ext f g k (e ∷ es) h =
      let here : f k ≡ g k = h k (le_refl k) (omega arith) in
      let more : picked f (suc k) es ≡ picked g (suc k) es = picked-ext f g (suc k) es (λ p a b. h p (omega arith) (omega arith)) in
      λ i. pick (here i) e (more i)

  pub picked-none : (k : ℕ) (es : List E) → picked (λ _. 0) k es ≡ []
  picked-none k [] = refl
  picked-none k (e ∷ es) = picked-none (suc k) es

  picked-zero : (f : ℕ → ℕ) (k : ℕ) (es : List E) → ((p : ℕ) → k ≤ p → f p ≡ 0) → picked f k es ≡ []
  picked-zero f k es h = picked-ext f (λ _. 0) k es (λ p a _. h p a) ∙ picked-none k es

  -- entries at places where f is 0 change nothing
  picked-front : (f : ℕ → ℕ) (k : ℕ) (xs ys : List E) → ((p : ℕ) → k + length xs ≤ p → f p ≡ 0) → picked f k (xs ++ ys) ≡ picked f k xs
  picked-front f k [] ys h = picked-zero f k ys (λ p l. h p (omega arith))
  picked-front f k (x ∷ xs) ys h = ap (pick (f k) x) (picked-front f (suc k) xs ys (λ p l. h p (omega arith)))

  picked-last : (f : ℕ → ℕ) (k : ℕ) (es : List E) (e : E) → f (k + length es) ≡ 1 → picked f k (es ++ e ∷ []) ≡ picked f k es ++ e ∷ []
  picked-last f k [] e h = let at : k ≡ k + 0 = omega arith in ap (λ (n : ℕ). pick n e []) (ap f at ∙ h)
  picked-last f k (x ∷ es) e h =
      let at : suc k + length es ≡ k + suc (length es) = omega arith in
      ap (pick (f k) x) (picked-last f (suc k) es e (ap f at ∙ h)) ∙ pick-append (f k) x (picked f (suc k) es) (e ∷ [])
    where
      pick-append : (n : ℕ) (x : E) (xs ys : List E) → pick n x (xs ++ ys) ≡ pick n x xs ++ ys
      pick-append zero x xs ys = refl
      pick-append (suc n) x xs ys = refl

  -- the last entry becomes one's own
  pub mine-push : (seen : List E) (own : List ℕ) (e : E) → IsWithin seen own → mine (seen ++ e ∷ []) (own ++ length seen ∷ []) ≡ mine seen own ++ e ∷ []
  mine-push seen own e within =
      let n : ℕ = length seen in
      let now : ℕ → ℕ = λ p. times p (own ++ n ∷ []) in
      let end : 0 + n ≡ n = omega arith in
      let last : now n ≡ 1 = omega (arith, times-push n own n, within n (le_refl n), only-same n n refl) in
      picked-last now 0 seen e (ap now end ∙ last)
      ∙ ap (λ l. l ++ e ∷ []) (picked-ext now (λ p. times p own) 0 seen (λ p _ l. let below : p < n = omega arith in omega (arith, times-push p own n, only-other p n (λ q. absurd (omega arith)))))

  pub within-push : (seen : List E) (own : List ℕ) (e : E) → IsWithin seen own → IsWithin (seen ++ e ∷ []) (own ++ length seen ∷ [])
  within-push seen own e within p l = let n : ℕ = length seen in omega (arith, length-append seen (e ∷ []), times-push p own n, within p (omega (arith, length-append seen (e ∷ []))), only-other p n (λ q. absurd (omega (arith, length-append seen (e ∷ [])))))

  -- what is one's own stays as the journal grows
  pub mine-longer : (log seen : List E) (own : List ℕ) → StartsWith log seen → IsWithin seen own → mine log own ≡ mine seen own
  mine-longer log seen own s within = ap (λ l. mine l own) s.1 ∙ picked-front (λ p. times p own) 0 seen s.0 (λ p l. within p (omega arith))

  pub within-longer : (log seen : List E) (own : List ℕ) → StartsWith log seen → IsWithin seen own → IsWithin log own
  within-longer log seen own s within p l = within p (omega (arith, starts_long log seen s))

  -- where each place is one's own, so is each entry
  pub mine-whole : (log : List E) (own : List ℕ) → ((p : ℕ) → times p own ≡ between p 0 (length log)) → mine log own ≡ log
  mine-whole log own h = picked-ext _ (λ _. 1) 0 log (λ p _ l. let inside : p < length log = omega arith in h p ∙ between-in p 0 (length log) (omega arith) inside) ∙ all 0 log
    where
      all : (k : ℕ) (es : List E) → picked (λ _. 1) k es ≡ es
      all k [] = refl
      all k (e ∷ es) = ap (λ l. e ∷ l) (all (suc k) es)

  -- one entry more
  pub starts_push : (log seen : List E) (e : E) → StartsWith log seen → StartsWith (log ++ e ∷ []) seen
  starts_push log seen e s = (s.0 ++ e ∷ [], ap (λ l. l ++ e ∷ []) s.1 ∙ append_assoc seen s.0 (e ∷ []))

  -- a beginning that is as long is the whole
  pub starts_whole : (log seen : List E) → StartsWith log seen → length log ≤ length seen → seen ≡ log
  starts_whole log seen s long = ends s.0 s.1 (omega (arith, ap length s.1, length-append seen s.0))
    where
      ends : (rest : List E) → log ≡ seen ++ rest → length rest ≡ 0 → seen ≡ log
      ends [] e z = sym (e ∙ append_nil seen)
      ends (x ∷ rest) e z = absurd (omega arith)

  -- of two beginnings of one list, the longer begins with the other
  pub starts_both : (log a b : List E) → StartsWith log a → StartsWith log b → length b ≤ length a → StartsWith a b
  starts_both log a [] s t le = (a, refl)
  starts_both log [] (y ∷ b) s t le = absurd (omega arith)
  starts_both log (x ∷ a) (y ∷ b) s t le =
      let e = sym s.1 ∙ t.1 in
      let more = starts_both (a ++ s.0) a b (s.0, refl) (t.0, ap rest_of e) (omega arith) in
      (more.0, λ i. ap (head_or x) e i ∷ more.1 i)
    where
      rest_of : List E → List E
      rest_of [] = []
      rest_of (z ∷ zs) = zs

      head_or : E → List E → E
      head_or d [] = d
      head_or d (z ∷ zs) = z

  -- a fact of the longer list, and of the shorter
  pub longer_cases : (F : List E → Type 0) (xs ys : List E) → (length ys ≤ length xs → F xs) → (length xs < length ys → F ys) → F (longer xs ys)
  longer_cases F xs ys p q = dite (dec_le (length ys) (length xs))
      (λ h. subst (λ b. F (cond b ys xs)) (sym (le-ltb (length xs) (length ys) h)) (p h))
      (λ h. let l : length xs < length ys = omega arith in subst (λ b. F (cond b ys xs)) (sym (lt-ltb (length xs) (length ys) l)) (q l))

  pub shorter_cases : (F : List E → Type 0) (xs ys : List E) → (length ys ≤ length xs → F ys) → (length xs < length ys → F xs) → F (shorter xs ys)
  shorter_cases F xs ys p q = dite (dec_le (length ys) (length xs))
      (λ h. subst (λ b. F (cond b xs ys)) (sym (le-ltb (length xs) (length ys) h)) (p h))
      (λ h. let l : length xs < length ys = omega arith in subst (λ b. F (cond b xs ys)) (sym (lt-ltb (length xs) (length ys) l)) (q l))

  pub shorter_le : (xs ys : List E) → length (shorter xs ys) ≤ length (longer xs ys)
  shorter_le xs ys = dite (dec_le (length ys) (length xs))
      (λ h. subst (λ b. length (cond b xs ys) ≤ length (cond b ys xs)) (sym (le-ltb (length xs) (length ys) h)) h)
      (λ h. let l : length xs < length ys = omega arith in subst (λ b. length (cond b xs ys) ≤ length (cond b ys xs)) (sym (lt-ltb (length xs) (length ys) l)) (omega arith))

  pub longer_starts : (xs ys : List E) → StartsWith (longer xs ys) (shorter xs ys) → StartsWith (longer xs ys) xs × StartsWith (longer xs ys) ys
  longer_starts xs ys = by_longer (nat_lt (length xs) (length ys))
    where
      by_longer : (b : Bool) → StartsWith (cond b ys xs) (cond b xs ys) → StartsWith (cond b ys xs) xs × StartsWith (cond b ys xs) ys
      by_longer true h = (h, starts_same ys)
      by_longer false h = (starts_same xs, h)

  -- where two choices share no place, what both pick is what each picks, merged
  pub picked-merge : (f g h : ℕ → ℕ) (k : ℕ) (es : List E) → ((p : ℕ) → h p ≡ f p + g p) → ((p : ℕ) → f p + g p ≤ 1) → IsMerged (picked h k es) (picked f k es) (picked g k es)
  picked-merge f g h k [] is one = (refl, refl)
  picked-merge f g h k (e ∷ es) is one = merge_one (f k) (g k) (h k) (is k) (one k) e _ _ _ (picked-merge f g h (suc k) es is one)
    where
      merge_one : (a b c : ℕ) → c ≡ a + b → a + b ≤ 1 → (e : E) (zs xs ys : List E) → IsMerged zs xs ys → IsMerged (pick c e zs) (pick a e xs) (pick b e ys)
      merge_one zero zero c is one e zs xs ys m = let z : 0 ≡ c = omega arith in subst (λ (n : ℕ). IsMerged (pick n e zs) xs ys) z m
      merge_one zero (suc b) c is one e zs xs ys m = let z : suc b ≡ c = omega arith in subst (λ (n : ℕ). IsMerged (pick n e zs) xs (e ∷ ys)) z (inr (ys, refl, m))
      merge_one (suc a) zero c is one e zs xs ys m = let z : suc a ≡ c = omega arith in subst (λ (n : ℕ). IsMerged (pick n e zs) (e ∷ xs) ys) z (inl (xs, refl, m))
      merge_one (suc a) (suc b) c is one e zs xs ys m = absurd (omega arith)

  -- a journal is what is one's own and what is not
  pub own_and_others : (log : List E) (own : List ℕ) → IsMerged log (mine log own) (others log own)
  own_and_others log own = go 0 log
    where
      at : (n m : ℕ) → m ≡ 1 - n → (e : E) (zs xs ys : List E) → IsMerged zs xs ys → IsMerged (e ∷ zs) (pick n e xs) (pick m e ys)
      at zero m is e zs xs ys h = let z : 1 ≡ m = omega arith in subst (λ (k : ℕ). IsMerged (e ∷ zs) xs (pick k e ys)) z (inr (ys, refl, h))
      at (suc n) m is e zs xs ys h = let z : 0 ≡ m = omega arith in subst (λ (k : ℕ). IsMerged (e ∷ zs) (e ∷ xs) (pick k e ys)) z (inl (xs, refl, h))

      go : (k : ℕ) (es : List E) → IsMerged es (picked (λ p. times p own) k es) (picked (λ p. 1 - times p own) k es)
      go k [] = (refl, refl)
      go k (e ∷ es) = at (times k own) (1 - times k own) refl e _ _ _ (go (suc k) es)

  behind : (z : E) (zs : List E) (e : E) → Contains zs e → Contains (z ∷ zs) e
  behind z zs e h = (suc h.0, omega (arith, h.1), h.2)

  first_or : (z : E) (zs rest : List E) (e : E) → (Contains rest e → Contains zs e) → Contains (z ∷ rest) e → Contains (z ∷ zs) e
  first_or z zs rest e later h = at h.0 h.1 h.2
    where
      at : (k : ℕ) → k < length (z ∷ rest) → get_or (z ∷ rest) k e ≡ e → Contains (z ∷ zs) e
      at zero below is = (0, omega arith, is)
      at (suc k) below is = behind z zs e (later (k, omega arith, is))

  -- an entry of a list stands in what it was put together to
  in_merged : (e : E) (zs xs ys : List E) → IsMerged zs xs ys → Contains xs e → Contains zs e
  in_merged e [] xs ys m h = subst (λ l. Contains l e) m.0 h
  in_merged e (z ∷ zs) xs ys m h = ⊎_elim
      (λ (t : (rest : List E) × (xs ≡ z ∷ rest) × IsMerged zs rest ys). first_or z zs t.0 e (in_merged e zs t.0 ys t.2) (subst (λ l. Contains l e) t.1 h))
      (λ (t : (rest : List E) × (ys ≡ z ∷ rest) × IsMerged zs xs rest). behind z zs e (in_merged e zs xs t.0 t.2 h))
      m

  -- an entry of one's own stands in the journal
  pub own_in : (log : List E) (own : List ℕ) (e : E) → Contains (mine log own) e → Contains log e
  own_in log own e h = in_merged e log _ _ (own_and_others log own) h
