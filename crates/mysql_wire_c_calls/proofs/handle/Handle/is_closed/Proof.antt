-- `is_closed` compares the pointer with null.
use mathlib.Core.Path.{◌≡◌, refl, sym, subst}
use mathlib.Core.List.{List, [], ◌∷◌}
use seplogic.Ra.Ura.{Ura}
use base.Fraction.{full_share}
use lib.Dec.{T, lit<}
use mir.Syntax.{named, ty_ptr, ptr_eq}
use mir.Raw.{raw as bare}
use mir.Val.{Val, vbool, vnull, op2_val, has_ty, WT}
use base.Logic.{ent, guard, guard_i, via, fst∗, snd∗, never, never_e}
use base.Fml.{ftrue, flft}
use contract.Monad.{fact_use}
use contract.Running.{tables}
use types.Logic.{Logic, sem}
use types.Kit.{‵, ◌⊛◌, given, learn, ◌$◌, ◌∵◌, !, qed, done, move, keep, use1, split, join, fsplit, fsplit3, fjoin, feq_i, feq_l, check, rewrite, suffices, frame, group}
use types.Part.{whole, sub, look_in}
use types.Run.{enter, of_opd, bin, lit, load, stop, fld, returns}
use types.ByLocal.{alloc_all, pass_all, free_all, look_at, get, is, through, sets}
use denote.Laws.{shows}
use denote.Memory.{cell_at, lone}
use denote.RattleType.{RattleType}
use denote.RawPtr.{Ptr, block_ptr, null_ptr, ptr_val, Testable, tests_null, lies_at}
use denote.Ref.{MutRef, mut_vals, mut_Tells}
use denote.Signature.{plain}
use denote.Steps.{nothing, opens, closes, peeks}
use denote.Triple.Walked.{Stays, walk_of, says, stay_ref, Goes-ref, ends_at}
use Rattle.std.proofs.raw_atomic.Walks.{proved}
use Rattle.std.proofs.GlobalToken.{dealloc_token-Testable}
use Rattle.std.specs.Prelude.{is_none}
use Rattle.std.specs.Global.{Global}
use Rattle.std.specs.declared.option.Option.{Option}
use Rattle.std.specs.declared.option.Option.TheVariants.{Some, None}
use Rattle.std_heap.specs.contracts.GlobalAllocator.TheImpl.{ghosts}
use Rattle.mysql_wire_c_calls.specs.Owned.{handle_owns}
use Rattle.mysql_wire_c_calls.specs.contracts.side.Connection as Connection
use Rattle.mysql_wire_c_calls.specs.contracts.handle.Handle as Handle
use Rattle.mysql_wire_c_calls.proofs.handle.Handle.TheLaws.{lowers}
use Rattle.mysql_wire_c_calls.specs.contracts.handle.Handle.is_closed as f
use Rattle.mysql_wire_c_calls.proofs.handle.Handle.is_closed.Statement.{statement}
use Rattle.mysql_wire_c_calls.proofs.handle.Handle.is_closed.Code as code

abbrev R : RattleType
R = Handle.the_row

abbrev X : RattleType
X = Connection.the_row

abbrev stayed : Stays f.ended.signature.params f.ended.kept
stayed = (stay_ref (0 ∷ []) tt (plain (λ _. R)), tt)

typed : (s : Ptr) → T (has_ty ty_ptr (ptr_val s)) × WT (ptr_val s)
typed (block_ptr b o) = (tt, tt)
typed null_ptr = (tt, record { fits = lit< tt })

-- p may be tested, and is null where there is no connection
abbrev Tests : Ptr → Option X.Denot → Type 0
Tests p l = Testable p × (op2_val ptr_eq (ptr_val p) vnull ≡ vbool (is_none l))

tested : {M : Type 1} {𝓤 : Ura M} (𝓛 : Logic 𝓤) (a : Global) (p : Ptr) (l : Option X.Denot) → ent 𝓤 (sem 𝓛 (handle_owns a p l)) (guard 𝓤 (Tests p l) (sem 𝓛 (handle_owns a p l)))
tested {𝓤 = 𝓤} 𝓛 a p None = qed 𝓛 (‵ (handle_owns a p None) ∷ []) ∵ feq_l ! (λ e. check ! (subst (λ (s : Ptr). Tests s None) (sym e) (lit< tt, refl)) $ feq_i ! Ptr p null_ptr e $ done !)
tested {𝓤 = 𝓤} 𝓛 a null_ptr (Some x) = via 𝓤 (never 𝓤) (fst∗ 𝓤 (never 𝓤) (sem 𝓛 (ghosts.dealloc_token a (bare (lone X.mir)) null_ptr))) (never_e 𝓤 _)
tested {𝓤 = 𝓤} 𝓛 a (block_ptr b o) (Some x) =
    let p = block_ptr b o in let B = sem 𝓛 (handle_owns a p (Some x)) in
    fact_use 𝓤 (Testable p) (via 𝓤 _ (snd∗ 𝓤 (sem 𝓛 (lies_at X full_share p x)) (sem 𝓛 (ghosts.dealloc_token a (bare (lone X.mir)) p))) (dealloc_token-Testable 𝓛 a (bare (lone X.mir)) p)) (λ t. guard_i 𝓤 (Tests p (Some x)) B (t, refl))

pub is_closed_spec : {M : Type 1} → statement M
is_closed_spec 𝓤 𝓛 𝓜 𝓡 wired =
    let c = f.clauses 𝓛 𝓜.mem 𝓡.returns in let W = walk_of 𝓛 f.ended stayed c in let 𝓣 = tables 𝓤 𝓛.H 𝓜 𝓡 𝓡.env in
    proved 𝓛 f.ended stayed c 𝓜 𝓡 (Goes-ref 𝓛 1 0 tt (plain (λ _. R)), tt)
    f.Key.name code.function (code.unfolded 𝓤 𝓛.H 𝓜 𝓡 wired)
    (λ κs. (mut_vals, tt)) (λ κs. (mut_Tells (named 0) κs.0 R, tt)) (λ κs qs bounds a _ are.
    let b = a.0.ref_ptr.0 in let o = a.0.ref_ptr.1 in let h = a.0.now in let vs = mut_vals a.0 in let r = is_none h.connection in
    let y : W.Ghost = ((κs, qs, bounds, a, (vs, tt)), tt) in
    qed 𝓛 (((‵ (flft κs.0 qs.0) ⊛ ‵ ftrue) ⊛ ‵ ((MutRef (named 0) κs.0 R).own_val a.0 vs) ⊛ ‵ ftrue) ∷ ‵ ftrue ∷ []) ∵
    split ! $ split ! $ move ! (2 ∷ []) $ split ! $ keep ! (0 ∷ 2 ∷ []) $
    enter ! _ _ _ _ _ $ alloc_all ! (λ l. pass_all ! refl ((tt, tt), tt) $
    fsplit3 ! $ move ! (1 ∷ 2 ∷ 3 ∷ []) $ opens ! tt R b o (λ us.
    move ! (1 ∷ []) $ peeks ! R _ (shows 𝓛 R) h us (λ is'. fsplit ! $ move ! (1 ∷ []) $
    use1 𝓛 (given (Tests h.at h.connection) (‵ (handle_owns h.alloc h.at h.connection))) (tested 𝓛 h.alloc h.at h.connection) $ learn ! (λ t.
    let word = lowers.val_is h us is' in
    let Cell = λ (ws : List Val). ‵ (cell_at full_share R.mir ws b o) in
    rewrite ! 2 Cell word refl $
    -- [what the handle owns; what the fields own; the handle's cell; the open borrow, in three entries]
    sets ! (of_opd ! (load ! (through ! refl (fld ! refl (stop !))) (look_in ! 2 (sub ! 0 refl (whole !))))) refl (typed h.at) $
    sets ! (is ! (bin ! (get ! refl) (lit ! tt) (tests_null h.at t.0)) t.1) refl (tt, tt) $
    rewrite ! 2 Cell (sym word) refl $
    move ! (1 ∷ []) $ fjoin ! $ move ! (1 ∷ []) $ closes ! tt R h us b o $
    returns ! (look_at ! 0 refl) $ free_all ! refl $ move ! (3 ∷ []) $
    suffices ! _ (ends_at 𝓛 f.ended stayed c y (vbool r) r (h, tt) (tt, tt)) $ says ! (refl, refl) $
    group ! 3 $ nothing ! $ move ! (1 ∷ 0 ∷ []) $ join ! $ nothing ! $ move ! (2 ∷ 0 ∷ []) $ join ! $ frame ! $ frame ! $
    feq_i ! _ (vbool r ∷ []) _ refl $ done !)))))
