-- `allocate` asks for the bytes of `len` nodes, and splits what it gets: the memory is the block, and the right to free it the claim.
use Rattle.std.proofs.Common.{◌≡◌, ℕ, ◌*◌, ◌^◌, ◌<◌, [], ◌∷◌, true, false, refl, w64, arith, lit<}
use Rattle.std.proofs.raw_atomic.Walks.{proved, leaves}
use Rattle.std.proofs.VecSteps.Shapes.{after, head, arm_body}
use Rattle.std_alloc.proofs.Pairs.{pair_val, pair_of}
use Rattle.std_alloc.proofs.ResultValues.{ok_of, err_of}
use Rattle.core.proofs.alloc.Calls.{Al, Answer-typed, Takes, at_takes, Answered, Takes-goes, Takes-gives, answers}
use Rattle.core.specs.declared.result.Result.TheVariants.{Ok, Err}
use Rattle.core.specs.contracts.result.Result as result
use Rattle.core.specs.contracts.alloc.AllocError as refusal
use mir.Syntax.{Fn, Args, a_type, dcons, dnil, named, ty_array}
use mir.MapTy.{inst_fn}
use mir.Val.{Val, WT, vint, vptr, vstruct, vcons, vnil}
use base.Logic.{SProp, emp}
use base.Fml.{Lft, Share, ftrue, flft}
use prog.Wp.{Env, Wp, after_seq, at_return}
use contract.BorrowLft.{◌⊑◌, ⊑_trans}
use contract.Monad.{fact, fact_i}
use contract.Running.{tables}
use types.Kit.{Post as After, any_q, ‵, raw, ◌⊛◌, later, at_ret, ◌$◌, ◌∵◌, !, qed, by, move, keep, use0, use1, use2, split, join, fsplit, fjoin, await}
use types.Part.{whole, agg}
use types.Match.{live, vrt, in_variant}
use types.Run.{stop, fld, lit, of_opd, bin, no_more, and_then, first, switches_on, exec, returns, enter}
use types.ByLocal.{alloc_all, pass_all, free_all, look_at, get, get_in, get_tag, sets, sets_last, lands_as, env}
use denote.Builtin.{usize, RefOf}
use denote.Exit.{yes}
use denote.Laws.{Is}
use denote.Param.{param, bounded}
use denote.Plain.{uint_vals, uint_Tells}
use denote.RattleType.{RattleType, owns}
use denote.RawPtr.{Ptr, block_ptr}
use denote.Ref.{shr_vals, shr_Tells}
use denote.Signature.{plain, types_at}
use denote.Steps.{nothing, heard, owned}
use denote.Struct.Declared as Declared
use denote.Struct.Struct.{Struct, Struct-Makes}
use denote.Struct.Tuple.{Tuple}
use denote.Triple.Call.{calls_at}
use denote.Triple.Table.{framed}
use denote.Triple.Walked.{Stays, walk_of, stay_dropped, Goes-dropped}
use Rattle.in_lists.specs.Block.{laid, node_type, block_type}
use Rattle.in_lists.specs.contracts.block.Block as block
use Rattle.in_lists.specs.contracts.block.Claim as claim
use Rattle.in_lists.proofs.Memory.{Start, start_val, start_made, Handle, claim_val, handle_made, block_bytes, block_aligned}
use Rattle.in_lists.specs.contracts.block.allocate as f
use Rattle.in_lists.specs.contracts.block.allocate.Key.{name as #self}
use Rattle.in_lists.proofs.block.allocate.Statement.{statement}
use Rattle.in_lists.proofs.block.allocate.Code as code

pub allocate_spec : {M : Type 1} → statement M
allocate_spec 𝓤 𝓛 𝓜 𝓡 wired A L g d dd met md =
    let S = f.ended A g d dd in let c = f.clauses A g d dd 𝓛 𝓜.mem 𝓡.returns in let 𝓣 = tables 𝓤 𝓛.H 𝓜 𝓡 𝓡.env in
    let args : Args = bounded (a_type ∷ []) (A, tt) (dcons d (dcons dd dnil)) in let fn : Fn = inst_fn args code.function in
    let Z : Al = record { row = A; laws = L; g = g; d = d; drops = dd } in let H : RattleType = param 0 A in let Claim : RattleType = claim.the_row H g in
    let Both : RattleType = Tuple (block.the_row ∷ Claim ∷ []) in let Out : RattleType = result.the_row Both refusal.the_row in
    let handle = RefOf (0 ∷ []) tt (plain (λ _. H)) (λ _. tt) in
    let hs : Stays S.signature.params S.kept = (stay_dropped handle yes, (stay_dropped (plain (λ _. usize)) yes, tt)) in
    proved 𝓛 S hs c 𝓜 𝓡 (Goes-dropped 𝓛 2 handle yes (λ κs x w. refl), (Goes-dropped 𝓛 2 (plain (λ _. usize)) yes (λ κs x w. refl), tt))
    (#self args) fn (code.unfolded 𝓤 𝓛.H 𝓜 𝓡 wired (A, tt) d dd)
    (λ κs. (shr_vals, (uint_vals w64, tt))) (λ κs. (shr_Tells (named 0) κs.0 H, (uint_Tells w64, tt))) (λ κs qs bounds a gh are.
    let κ : Lft = κs.0 in let κ₁ : Lft = κs.1.0 in let q : Share = qs.0 in let at = a.0.ref_ptr in let h = a.0.now in let len : ℕ = a.1.0 in let τ = block_type len in
    let z : (walk_of 𝓛 S hs c).Ghost = ((κs, qs, bounds, a, (vptr at.0 at.1 ∷ [], (vint w64 len ∷ [], tt))), gh) in
    let Post : Val → SProp 𝓤 = (walk_of 𝓛 S hs c).post z in
    let y = at_takes Z 𝓛 𝓜.mem 𝓡.returns κ q at h (len * 24) 8 τ in
    qed 𝓛 (((‵ (flft κ q) ⊛ ‵ (flft κ₁ qs.1.0) ⊛ ‵ ftrue) ⊛ ‵ (owns (types_at S.signature.params κs) a z.0.4)) ∷ (raw (fact 𝓤 (κ₁ ⊑ A.lives)) ⊛ raw (fact 𝓤 (len < 2 ^ 34))) ∷ []) ∵
    move ! (1 ∷ []) $ split ! $ heard ! (κ₁ ⊑ A.lives) (λ lives. heard ! (len < 2 ^ 34) (λ few. split ! $ split ! $ move ! (2 ∷ []) $ fsplit ! $ fsplit ! $ keep ! (1 ∷ 3 ∷ 4 ∷ []) $
    let bytes : len * 24 < 2 ^ 64 = omega arith in
    enter ! 𝓣.C 𝓣.Λ fn (vptr at.0 at.1 ∷ vint w64 len ∷ []) Post $ alloc_all ! (λ l. pass_all ! refl ((tt, tt), ((tt, record { fits = are.1.0.1 }), tt)) $
    let Ev : Env 𝓤 𝓛.H = env fn.locals l in
    let Then : After 𝓤 𝓛.H = any_q (after_seq 𝓤 𝓛.H (Wp 𝓤 𝓛.H 𝓣.C 𝓣.Λ Ev (after 3 fn.body) (at_return 𝓤 𝓛.H Ev Post)) (at_return 𝓤 𝓛.H Ev Post)) in
    sets ! (bin ! (get ! refl) (lit ! tt) (record { fits = bytes })) refl (tt, record { fits = bytes }) $
    use2 𝓛 (raw ((Takes Z 𝓛 𝓜.mem 𝓡.returns).pre y))
    (Takes-goes Z 𝓛 𝓜.mem 𝓡.returns κ q at h (⊑_trans κ κ₁ A.lives bounds.0 lives) (len * 24) 8 τ (block_bytes len bytes) (block_aligned len) bytes (lit< tt)) $
    calls_at ! (framed 𝓤 𝓛.H 𝓜 𝓣) (Takes Z 𝓛 𝓜.mem 𝓡.returns) (met.allocate dd) y (and_then ! (get ! refl) (and_then ! (get ! refl) (and_then ! (lit ! tt) (no_more !)))) (λ v.
    use1 𝓛 (later (raw (Answered Z 𝓛 𝓜.mem 𝓡.returns h τ v) ⊛ ‵ (flft κ q))) (Takes-gives Z 𝓛 𝓜.mem 𝓡.returns κ q at h (len * 24) 8 τ v) $ await ! tt $ split ! $
    answers Z ! 𝓜.mem 𝓡.returns h τ v
    (λ b o e.
    -- [the room; the right to free it; the token; the other one; the locals]
    let p : Ptr = block_ptr b o in let x : (block.the_row).Denot = record { start = p; nodes = []; more = len; placed = refl; small = omega arith } in
    let k : Claim.Denot = record { handle = record {}; alloc = h; start = p; len = len } in
    let pair : Val = pair_val (start_val p) claim_val in
    let both : WT pair = ((tt, tt), ((tt, tt), tt)) in let ok : WT (live 0 (vcons pair vnil)) = (record { fits = lit< tt }, (both, tt)) in
    lands_as ! e refl (Answer-typed true b o) $ first ! $ switches_on ! (get_tag ! (vrt ! refl (fld ! refl (stop !))) (whole !)) $ exec ! 𝓣.C 𝓣.Λ Ev (arm_body 0 (head (after 2 fn.body))) Then $
    sets ! (of_opd ! (get_in ! (vrt ! refl (fld ! refl (stop !))) (in_variant ! 0 0 refl refl (whole !)))) refl (tt, tt) $
    sets ! (of_opd ! (get ! refl)) refl (tt, tt) $ sets ! (agg ! (and_then ! (get ! refl) (no_more !))) refl (tt, (tt, tt)) $ sets ! (of_opd ! (get ! refl)) refl (tt, (tt, tt)) $
    sets ! (agg ! (no_more !)) refl (tt, tt) $
    sets ! (agg ! (and_then ! (get ! refl) (no_more !))) refl (tt, (tt, tt)) $ sets ! (agg ! (and_then ! (get ! refl) (and_then ! (get ! refl) (no_more !)))) refl (tt, both) $
    sets_last ! (agg ! (and_then ! (lit ! tt) (and_then ! (get ! refl) (no_more !)))) refl (tt, ok) $
    exec ! 𝓣.C 𝓣.Λ Ev (after 3 fn.body) (at_ret Ev Post) $ sets ! (of_opd ! (get ! refl)) refl (tt, ok) $ returns ! (look_at ! 0 refl) $ free_all ! refl $
    use1 𝓛 (‵ (laid b o [] len)) (𝓛.laws.raw-room (ty_array node_type len) b o) $ use0 𝓛 (‵ (Start.own_val (p, tt) (start_val p ∷ []))) (start_made 𝓛 p) $ fjoin ! $
    move ! (1 ∷ []) $ use0 𝓛 (‵ ((Handle H g).own_val (tt, tt) (claim_val ∷ []))) (handle_made H g 𝓛) $ fjoin ! $ move ! (1 ∷ 0 ∷ []) $
    use2 𝓛 (‵ (Both.own_val (x, k) (pair ∷ []))) (pair_of 𝓛 block.the_row Claim x k (start_val p) claim_val) $
    use1 𝓛 (‵ (Out.own_val (Ok (x, k)) (live 0 (vcons pair vnil) ∷ []))) (ok_of 𝓛 Both refusal.the_row (x, k) pair) $ move ! (1 ∷ 2 ∷ []) $ join ! $
    let Told : Type 0 = (x.nodes ≡ []) × (x.more ≡ len) × (k.start ≡ x.start) × (k.len ≡ len) × (k.alloc ≡ h) in
    use0 𝓛 (raw (fact 𝓤 Told)) (fact_i 𝓤 Told (emp 𝓤) (refl, refl, refl, refl, refl)) $ nothing ! $ nothing ! $ fjoin ! $ nothing ! $ fjoin ! $ keep ! (2 ∷ 0 ∷ 3 ∷ 1 ∷ []) $
    by ! (leaves 𝓛 S hs c z (live 0 (vcons pair vnil)) (Ok (x, k)) (tt, (tt, tt)) (tt, (tt, tt))))
    (λ e.
    -- [the token; the other one; the locals]
    let refused : Val = live 1 (vcons (vstruct vnil) vnil) in let ok : WT refused = (record { fits = lit< tt }, (tt, tt)) in let Refusal : RattleType = Struct (Declared.shape refusal.the_type) in
    lands_as ! e refl (Answer-typed false 0 0) $ first ! $ switches_on ! (get_tag ! (vrt ! refl (fld ! refl (stop !))) (whole !)) $ exec ! 𝓣.C 𝓣.Λ Ev (arm_body 1 (head (after 2 fn.body))) Then $
    sets ! (of_opd ! (get_in ! (vrt ! refl (fld ! refl (stop !))) (in_variant ! 1 0 refl refl (whole !)))) refl (tt, tt) $
    sets_last ! (agg ! (and_then ! (lit ! tt) (and_then ! (get ! refl) (no_more !)))) refl (tt, ok) $
    exec ! 𝓣.C 𝓣.Λ Ev (after 3 fn.body) (at_ret Ev Post) $ sets ! (of_opd ! (get ! refl)) refl (tt, ok) $ returns ! (look_at ! 0 refl) $ free_all ! refl $ join ! $
    owned ! Refusal (Is Refusal) (Struct-Makes 𝓛 (Declared.shape refusal.the_type) tt) tt (vstruct vnil ∷ []) (tt, (refl, tt)) $
    use1 𝓛 (‵ (Out.own_val (Err (record {})) (refused ∷ []))) (err_of 𝓛 Both refusal.the_row (record {}) (vstruct vnil)) $
    use0 𝓛 (raw (fact 𝓤 (Unit {0}))) (fact_i 𝓤 (Unit {0}) (emp 𝓤) tt) $ nothing ! $ nothing ! $ fjoin ! $ nothing ! $ fjoin ! $ keep ! (3 ∷ 0 ∷ 2 ∷ 1 ∷ []) $
    by ! (leaves 𝓛 S hs c z refused (Err (record {})) (tt, (tt, tt)) (tt, (tt, tt)))))))))
