-- `put` takes its place out of the block, writes the node there, and puts the place back.
use Rattle.std.proofs.Common.{◌≡◌, ℕ, ◌*◌, ◌+◌, ◌^◌, ◌<◌, ◌≤◌, List, [], ◌∷◌, length, refl, sym, ap, ◌∙◌, subst, w64, arith}
use Rattle.std.proofs.raw_atomic.Walks.{proved, leaves}
use Rattle.std.proofs.VecSteps.Shapes.{after}
use borrow.Table.OneValue.{part_in}
use mir.Syntax.{named}
use mir.Val.{Val, vint, vptr, vunit}
use base.Fraction.{full_share}
use base.Logic.{SProp, emp, wand, apply∗}
use base.Fml.{Lft, ftrue, flft, froom}
use contract.Monad.{fact, fact_i}
use contract.Running.{tables}
use types.Logic.{sem}
use types.Kit.{‵, raw, ◌⊛◌, at_ret, ◌$◌, ◌∵◌, !, qed, by, move, keep, drop, use0, use1, use2, split, join, fsplit, fsplit3, fjoin, fjoin3, feq_i, rewrite}
use types.Part.{whole, sub, look_in}
use types.Run.{enter, of_opd, lit, unit_lit, bin, load, init, stop, fld, assigns_last, first, blocks, exec, returns}
use types.ByLocal.{alloc_all, pass_all, free_all, look_at, get, through, sets, env}
use denote.Builtin.{usize}
use denote.Exit.{yes}
use denote.Laws.{shows}
use denote.Memory.{cell_at, part_at}
use denote.Plain.{uint_vals, uint_Tells}
use denote.RattleType.{owns}
use denote.RawPtr.{Ptr, block_of, count_of}
use denote.Ref.{mut_vals, mut_Tells}
use denote.Signature.{plain, types_at}
use denote.Steps.{nothing, peeks, heard, opens, closes}
use denote.Triple.Walked.{Stays, walk_of, stay_dropped, stay_ref, Goes-dropped, Goes-ref}
use Rattle.in_lists.specs.Block.{laid, node_type, node_size, put_at, room_after}
use Rattle.in_lists.specs.declared.node.Node.{Node}
use Rattle.in_lists.specs.declared.block.Block.{Block}
use Rattle.in_lists.specs.contracts.node.Node as node
use Rattle.in_lists.specs.contracts.block.Block as block
use Rattle.in_lists.proofs.node.Node.TheLaws as node_laws
use Rattle.in_lists.proofs.block.Block.TheLaws as block_laws
use Rattle.in_lists.proofs.Memory.{start_val, put_counts, place_out}
use Rattle.in_lists.specs.contracts.block.Block.put as f
use Rattle.in_lists.proofs.block.Block.put.Statement.{statement}
use Rattle.in_lists.proofs.block.Block.put.Code as code

abbrev stayed : Stays f.ended.signature.params f.ended.kept
stayed = (stay_ref (0 ∷ []) tt (plain (λ _. block.the_row)), (stay_dropped (plain (λ _. usize)) yes, (stay_dropped (plain (λ _. node.the_row)) yes, tt)))

pub put_spec : {M : Type 1} → statement M
put_spec 𝓤 𝓛 𝓜 𝓡 wired =
    let c = f.clauses 𝓛 𝓜.mem 𝓡.returns in let 𝓣 = tables 𝓤 𝓛.H 𝓜 𝓡 𝓡.env in
    proved 𝓛 f.ended stayed c 𝓜 𝓡
    (Goes-ref 𝓛 1 0 tt (plain (λ _. block.the_row)), (Goes-dropped 𝓛 1 (plain (λ _. usize)) yes (λ κs x f. refl), (Goes-dropped 𝓛 1 (plain (λ _. node.the_row)) yes (λ κs x f. refl), tt)))
    f.Key.name code.function (code.unfolded 𝓤 𝓛.H 𝓜 𝓡 wired)
    (λ κs. (mut_vals, (uint_vals w64, ((λ n. node_laws.lowered n ∷ []), tt)))) (λ κs. (mut_Tells (named 0) κs.0 block.the_row, (uint_Tells w64, (node_laws.lowers.val_is, tt)))) (λ κs qs bounds a g are.
    let κ : Lft = κs.0 in let b = a.0.ref_ptr.0 in let o = a.0.ref_ptr.1 in let d : Block = a.0.now in let i : ℕ = a.1.0 in let n : Node = a.1.1.0 in
    let p : Ptr = d.start in let ns : List Node = d.nodes in let pb = block_of p in let po = count_of p in let spot = i * node_size + po in let v : Val = node_laws.lowered n in
    let y : (walk_of 𝓛 f.ended stayed c).Ghost = ((κs, qs, bounds, a, (vptr b o ∷ [], (vint w64 i ∷ [], (v ∷ [], tt)))), g) in
    let Post : Val → SProp 𝓤 = (walk_of 𝓛 f.ended stayed c).post y in
    let typed = ((node_laws.the_row_laws.lawful 𝓛).typed n (v ∷ []) are.1.1.0).0 in
    qed 𝓛 (((‵ (flft κ qs.0) ⊛ ‵ ftrue) ⊛ ‵ (owns (types_at f.signature.params κs) a y.0.4)) ∷ (raw (fact 𝓤 (i ≤ length ns)) ⊛ raw (fact 𝓤 (i < length ns + d.more))) ∷ []) ∵
    move ! (1 ∷ []) $ split ! $ heard ! (i ≤ length ns) (λ within. heard ! (i < length ns + d.more) (λ free. split ! $ split ! $ move ! (2 ∷ []) $ fsplit ! $
    move ! (1 ∷ []) $ fsplit ! $ drop ! $ fsplit ! $ keep ! (2 ∷ 3 ∷ 0 ∷ []) $
    let few : length ns + d.more < 2 ^ 34 = d.small in let fits : i * 24 < 2 ^ 64 = omega arith in
    let same = put_counts ns i n d.more within free in
    let new : Block = record d { nodes = put_at ns i n; more = room_after ns i d.more; small = subst (λ (k : ℕ). k < 2 ^ 34) (sym same) d.small } in
    enter ! 𝓣.C 𝓣.Λ code.function (vptr b o ∷ vint w64 i ∷ v ∷ []) Post $ alloc_all ! (λ l. pass_all ! refl ((tt, tt), ((tt, record { fits = are.1.0.1 }), (typed, tt))) $
    let Ev = env code.function.locals l in
    -- [the `&mut`, in three parts; the token; what the node owns; the locals]
    fsplit3 ! $ move ! (1 ∷ 2 ∷ 3 ∷ []) $ opens ! tt block.the_row b o (λ us. move ! (1 ∷ []) $ peeks ! block.the_row _ (shows 𝓛 block.the_row) d us (λ is. fsplit ! $ move ! (1 ∷ []) $
    let P = part_at node.the_row full_share n pb spot in let Whole = laid pb po new.nodes new.more in
    use1 𝓛 (‵ (froom node_type pb spot) ⊛ raw (wand 𝓤 (sem 𝓛 P) (sem 𝓛 Whole))) (place_out 𝓛 pb n po ns i spot d.more within free refl) $ split ! $
    let word = block_laws.lowers.val_is d us is ∙ ap (λ (z : Ptr). start_val z ∷ []) d.placed in
    let Cell = λ (ws : List Val). ‵ (cell_at full_share block.the_row.mir ws b o) in
    rewrite ! 3 Cell word refl $
    -- [the place; the way back; the block's field; its cell; the open borrow, in three parts; the first part of the `&mut`; what the node owns; the locals]
    first ! $ blocks ! $
    sets ! (of_opd ! (load ! (through ! refl (fld ! refl (stop !))) (look_in ! 3 (sub ! 0 refl (whole !))))) refl (tt, tt) $
    sets ! (bin ! (get ! refl) (lit ! tt) (record { fits = fits })) refl (tt, record { fits = fits }) $
    sets ! (bin ! (get ! refl) (get ! refl) tt) refl (tt, tt) $
    assigns_last ! (of_opd ! (get ! refl)) (through ! refl (stop !)) (init ! 0 refl typed) $
    exec ! 𝓣.C 𝓣.Λ Ev (after 1 (code.function).body) (at_ret Ev Post) $ sets ! (of_opd ! (unit_lit !)) refl (tt, tt) $
    move ! (0 ∷ 8 ∷ []) $ use2 𝓛 (‵ P) (part_in 𝓛 node.the_row refl full_share n pb spot v) $ use2 𝓛 (‵ Whole) (apply∗ 𝓤 (sem 𝓛 P) (sem 𝓛 Whole)) $
    rewrite ! 2 Cell (sym word) refl $ move ! (1 ∷ []) $ fjoin ! $ move ! (1 ∷ []) $ closes ! tt block.the_row new us b o $
    -- [two parts of the `&mut`; the token; its first part]
    returns ! (look_at ! 0 refl) $ free_all ! refl $ move ! (3 ∷ []) $ fjoin3 ! $ nothing ! $ nothing ! $ fjoin ! $ nothing ! $ fjoin ! $ move ! (1 ∷ 0 ∷ []) $ fjoin ! $
    nothing ! $ move ! (2 ∷ 0 ∷ []) $ join ! $ feq_i ! (List Val) (vunit ∷ []) (vunit ∷ []) refl $
    let Nodes : Type 0 = new.nodes ≡ put_at ns i n in let Room : Type 0 = length new.nodes + new.more ≡ length ns + d.more in let Start : Type 0 = p ≡ p in
    use0 𝓛 (raw (fact 𝓤 Start)) (fact_i 𝓤 Start (emp 𝓤) refl) $ use0 𝓛 (raw (fact 𝓤 Room)) (fact_i 𝓤 Room (emp 𝓤) same) $ join ! $
    use0 𝓛 (raw (fact 𝓤 Nodes)) (fact_i 𝓤 Nodes (emp 𝓤) refl) $ join ! $
    keep ! (2 ∷ 3 ∷ 1 ∷ 0 ∷ []) $ by ! (leaves 𝓛 f.ended stayed c y vunit tt (new, (tt, (tt, tt))) (tt, (tt, (tt, tt))))))))))
