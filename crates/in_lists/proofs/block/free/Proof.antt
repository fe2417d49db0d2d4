-- `free` gives the allocator its block back: the nodes hold nothing, so their places are room again.
use Rattle.std.proofs.Common.{◌≡◌, ℕ, ◌+◌, ◌*◌, ◌^◌, ◌<◌, T, List, [], ◌∷◌, length, refl, sym, ap, ◌∙◌, subst, w64, arith, lit<}
use Rattle.std.proofs.raw_atomic.Walks.{proved, leaves}
use Rattle.std.proofs.VecSteps.Shapes.{after}
use Rattle.core.proofs.alloc.Calls.{Al, Gives, at_gives, Gives-goes, Gives-Gives}
use mir.Syntax.{Fn, Args, a_type, dcons, dnil, named, ty_unit, ty_array}
use mir.MapTy.{inst_fn}
use mir.Val.{Val, WT, has_ty, vint, vptr, vunit}
use base.Logic.{SProp}
use base.Fml.{Lft, Share, ftrue, flft, froom}
use prog.Wp.{Env}
use contract.BorrowLft.{◌⊑◌, ⊑_trans}
use contract.Monad.{fact}
use contract.Running.{tables}
use types.Kit.{‵, raw, ◌⊛◌, given, later, at_ret, ◌$◌, ◌∵◌, !, qed, by, move, keep, drop, use1, use3, split, join, learn, rewrite, fsplit, fjoin, feq_i, await}
use types.Part.{whole, sub}
use types.Run.{stop, fld, lit, unit_lit, of_opd, bin, no_more, and_then, first, blocks, exec, returns, enter}
use types.ByLocal.{alloc_all, pass_all, free_all, look_at, get, get_in, sets, lands_last, is, env}
use denote.Builtin.{usize, RefOf}
use denote.Exit.{yes}
use denote.Param.{param, bounded}
use denote.Plain.{uint_vals, uint_Tells}
use denote.RattleType.{RattleType, owns}
use denote.RawPtr.{Ptr, block_of, count_of, ptr_val}
use denote.Ref.{shr_vals, shr_Tells}
use denote.Signature.{plain, types_at}
use denote.Steps.{nothing, heard}
use denote.Triple.Call.{calls_at_last}
use denote.Triple.Table.{framed}
use denote.Triple.Walked.{Stays, walk_of, stay_dropped, Goes-dropped}
use Rattle.in_lists.specs.Block.{node_type, block_type}
use Rattle.in_lists.specs.declared.block.Block.{Block}
use Rattle.in_lists.specs.contracts.block.Block as block
use Rattle.in_lists.specs.contracts.block.Claim as claim
use Rattle.in_lists.proofs.block.Block.TheLaws as block_laws
use Rattle.in_lists.proofs.Memory.{start_val, claim_val, handle_told, all_room, block_bytes, block_aligned}
use Rattle.in_lists.specs.contracts.block.free as f
use Rattle.in_lists.specs.contracts.block.free.Key.{name as #self}
use Rattle.in_lists.proofs.block.free.Statement.{statement}
use Rattle.in_lists.proofs.block.free.Code as code

pub free_spec : {M : Type 1} → statement M
free_spec 𝓤 𝓛 𝓜 𝓡 wired A L g d dd met md =
    let S = f.ended A g d dd in let c = f.clauses A g d dd 𝓛 𝓜.mem 𝓡.returns in let 𝓣 = tables 𝓤 𝓛.H 𝓜 𝓡 𝓡.env in
    let args : Args = bounded (a_type ∷ []) (A, tt) (dcons d (dcons dd dnil)) in let fn : Fn = inst_fn args code.function in
    let Z : Al = record { row = A; laws = L; g = g; d = d; drops = dd } in let H : RattleType = param 0 A in let Claim : RattleType = claim.the_row H g in
    let handle = RefOf (0 ∷ []) tt (plain (λ _. H)) (λ _. tt) in
    let hs : Stays S.signature.params S.kept = (stay_dropped (plain (λ _. block.the_row)) yes, (stay_dropped (plain (λ _. Claim)) S.kept.1.0, (stay_dropped handle yes, (stay_dropped (plain (λ _. usize)) yes, tt)))) in
    proved 𝓛 S hs c 𝓜 𝓡 (
      Goes-dropped 𝓛 2 (plain (λ _. block.the_row)) yes (λ κs x w. refl),
      (Goes-dropped 𝓛 2 (plain (λ _. Claim)) S.kept.1.0 (λ κs x w. refl), (Goes-dropped 𝓛 2 handle yes (λ κs x w. refl), (Goes-dropped 𝓛 2 (plain (λ _. usize)) yes (λ κs x w. refl), tt))),
    ) (#self args) fn (code.unfolded 𝓤 𝓛.H 𝓜 𝓡 wired (A, tt) d dd)
    (λ κs. ((λ x. block_laws.lowered x ∷ []), ((λ k. claim_val ∷ []), (shr_vals, (uint_vals w64, tt)))))
    (λ κs. (block_laws.lowers.val_is, ((λ k vs told. handle_told H g vs told.0), (shr_Tells (named 0) κs.0 H, (uint_Tells w64, tt))))) (λ κs qs bounds a gh are.
    let κ : Lft = κs.0 in let κ₁ : Lft = κs.1.0 in let q : Share = qs.0 in let x : Block = a.0 in let k : Claim.Denot = a.1.0 in
    let at = a.1.1.0.ref_ptr in let h = a.1.1.0.now in let len : ℕ = a.1.1.1.0 in let τ = block_type len in
    let p : Ptr = x.start in let ns = x.nodes in let b = block_of p in let o = count_of p in
    let z : (walk_of 𝓛 S hs c).Ghost = ((κs, qs, bounds, a, (start_val p ∷ [], (claim_val ∷ [], (vptr at.0 at.1 ∷ [], (vint w64 len ∷ [], tt))))), gh) in
    let Post : Val → SProp 𝓤 = (walk_of 𝓛 S hs c).post z in
    let y = at_gives Z 𝓛 𝓜.mem 𝓡.returns κ q at h b o (len * 24) 8 τ in
    let Asked : Type 0 = (length ns ≡ len) × (k.start ≡ p) × (k.len ≡ len) × (k.alloc ≡ h) in
    qed 𝓛 (((‵ (flft κ q) ⊛ ‵ (flft κ₁ qs.1.0) ⊛ ‵ ftrue) ⊛ ‵ (owns (types_at S.signature.params κs) a z.0.4)) ∷ (raw (fact 𝓤 (κ₁ ⊑ A.lives)) ⊛ raw (fact 𝓤 Asked)) ∷ []) ∵
    move ! (1 ∷ []) $ split ! $ heard ! (κ₁ ⊑ A.lives) (λ lives. heard ! Asked (λ asked. split ! $ split ! $
    let few : length ns + x.more < 2 ^ 34 = x.small in let many : length ns ≡ len = asked.0 in let bytes : len * 24 < 2 ^ 64 = omega arith in
    -- of each parameter what it owns is kept: the nodes, the right to free them, the handle
    move ! (2 ∷ []) $ fsplit ! $ fsplit ! $ drop ! $ move ! (1 ∷ []) $ fsplit ! $ fsplit ! $ drop ! $ move ! (1 ∷ []) $ fsplit ! $ fsplit ! $ drop ! $ keep ! (3 ∷ 2 ∷ 0 ∷ 4 ∷ 5 ∷ []) $
    use1 𝓛 (‵ (froom (ty_array node_type (length ns)) b o)) (all_room 𝓛 b o ns x.more) $ use1 𝓛 (‵ (froom (block_type (length ns)) b o)) (𝓛.laws.room-raw (ty_array node_type (length ns)) b o) $
    rewrite ! 0 (λ (m : ℕ). ‵ (froom (block_type m) b o)) asked.0 refl $
    rewrite ! 1 (λ (u : A.Denot × ℕ × Ptr). ‵ (g.dealloc_token u.0 (block_type u.1) u.2)) (λ i. (asked.3 i, asked.2 i, (asked.1 ∙ x.placed) i)) refl $
    enter ! 𝓣.C 𝓣.Λ fn (start_val p ∷ claim_val ∷ vptr at.0 at.1 ∷ vint w64 len ∷ []) Post $
    alloc_all ! (λ l. pass_all ! refl (((block_laws.the_row_laws.lawful 𝓛).typed x (start_val p ∷ []) are.0).0, ((tt, (tt, tt)), ((tt, tt), ((tt, record { fits = are.1.1.1.0.1 }), tt)))) $
    let Ev : Env 𝓤 𝓛.H = env fn.locals l in
    -- [the room; the right to free it; the handle; the token; the other one; the locals]
    sets ! (is ! (of_opd ! (get_in ! (fld ! refl (stop !)) (sub ! 0 refl (whole !)))) (ap ptr_val x.placed)) refl (tt, tt) $
    first ! $ blocks ! $ sets ! (of_opd ! (get ! refl)) refl (tt, tt) $
    sets ! (bin ! (get ! refl) (lit ! tt) (record { fits = bytes })) refl (tt, record { fits = bytes }) $
    move ! (2 ∷ 3 ∷ []) $ join ! $ move ! (1 ∷ 2 ∷ 0 ∷ []) $
    use3 𝓛 (raw ((Gives Z 𝓛 𝓜.mem 𝓡.returns).pre y))
    (Gives-goes Z 𝓛 𝓜.mem 𝓡.returns κ q at h (⊑_trans κ κ₁ A.lives bounds.0 lives) b o (len * 24) 8 τ (block_bytes len bytes) (block_aligned len) bytes (lit< tt)) $
    calls_at_last ! (framed 𝓤 𝓛.H 𝓜 𝓣) (Gives Z 𝓛 𝓜.mem 𝓡.returns) (met.deallocate dd) y
    (and_then ! (get ! refl) (and_then ! (get ! refl) (and_then ! (get ! refl) (and_then ! (lit ! tt) (no_more !))))) (λ v.
    use1 𝓛 (later (given (v ≡ vunit) (‵ (flft κ q)))) (Gives-Gives Z 𝓛 𝓜.mem 𝓡.returns κ q at h b o (len * 24) 8 τ v) $ await ! tt $ learn ! (λ is_unit.
    lands_last ! refl (subst (λ (u : Val). T (has_ty ty_unit u) × WT u) (sym is_unit) (tt, tt)) $
    exec ! 𝓣.C 𝓣.Λ Ev (after 2 fn.body) (at_ret Ev Post) $ sets ! (of_opd ! (unit_lit !)) refl (tt, tt) $ returns ! (look_at ! 0 refl) $ free_all ! refl $
    join ! $ feq_i ! (List Val) (vunit ∷ []) (vunit ∷ []) refl $ nothing ! $
    nothing ! $ nothing ! $ fjoin ! $ nothing ! $ fjoin ! $ nothing ! $ fjoin ! $ nothing ! $ fjoin ! $ keep ! (3 ∷ 0 ∷ 2 ∷ 1 ∷ []) $
    by ! (leaves 𝓛 S hs c z vunit tt (tt, (tt, (tt, (tt, tt)))) (tt, (tt, (tt, (tt, tt)))))))))))
