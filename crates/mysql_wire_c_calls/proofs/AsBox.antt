-- The handle and its parts own what a box at the same types owns.
use mathlib.Core.Path.{◌≡◌, refl, sym}
use mathlib.Core.List.{List, [], ◌∷◌}
use seplogic.Ra.Ura.{Ura}
use mir.Syntax.{impl, tnil, dnil}
use mir.Val.{Val}
use base.Logic.{ent}
use types.Logic.{Logic, sem}
use types.Kit.{‵, ◌$◌, ◌∵◌, !, qed, move, fsplit, fjoin, rewrite, done}
use denote.RattleType.{RattleType}
use denote.Signature.{Slot, plain}
use Rattle.std.proofs.Common.{true≢false}
use Rattle.std.specs.Prelude.{IsSome}
use Rattle.std.specs.declared.option.Option.{Option}
use Rattle.std.specs.declared.option.Option.TheVariants.{Some, None}
use Rattle.std.proofs.BoxSteps.Form as box
use Rattle.std.proofs.BoxSteps.Form.{Bx}
use Rattle.mysql_wire_c_calls.specs.Owned.{handle_owns}
use Rattle.std_heap.specs.contracts.Global as Heap
use Rattle.std_heap.specs.contracts.GlobalAllocator.TheImpl.{ghosts, dict}
use Rattle.std_heap.proofs.Global.TheLaws as heap
use Rattle.mysql_wire_c_calls.specs.contracts.side.Connection as Connection
use Rattle.mysql_wire_c_calls.proofs.side.Connection.TheLaws as connection
use Rattle.mysql_wire_c_calls.specs.contracts.parts.Parts as Parts
use Rattle.mysql_wire_c_calls.specs.contracts.handle.Handle as Handle

abbrev pub E : Bx
E = record { row = Connection.the_row; laws = connection.the_row_laws; al = record { row = Heap.the_row; laws = heap.the_row_laws; g = ghosts; d = dict; drops = impl [] tnil dnil } }

abbrev pub FromParts : Slot 0
FromParts = plain (λ _. Parts.the_row Connection.the_row Heap.the_row ghosts)

abbrev pub FromHandle : Slot 0
FromHandle = plain (λ _. Handle.the_row)

abbrev Hd : RattleType
Hd = Handle.the_row

-- a handle with a connection, as a box
abbrev pub as_box : Hd.Denot → (Connection.the_row).Denot → box.D E
as_box h x = record { ptr = h.at; alloc = h.alloc; value = x }

pub opened : {X : Type 0} (l : Option X) → IsSome l → (x : X) × (l ≡ Some x)
opened None h = absurd (true≢false (sym h))
opened (Some x) h = (x, refl)

module _ {M : Type 1} {𝓤 : Ura M} (𝓛 : Logic 𝓤) (h : Hd.Denot) (x : (Connection.the_row).Denot) (e : h.connection ≡ Some x) (vs : List Val) where
  pub to_box : ent 𝓤 (sem 𝓛 (Hd.own_val h vs)) (sem 𝓛 ((box.B E).own_val (as_box h x) vs))
  to_box = qed 𝓛 (‵ (Hd.own_val h vs) ∷ []) ∵ fsplit ! $ move ! (1 ∷ []) $ rewrite ! 0 (λ (l : Option (Connection.the_row).Denot). ‵ (handle_owns h.alloc h.at l)) e refl $ move ! (1 ∷ 0 ∷ []) $ fjoin ! $ done !

  pub of_box : ent 𝓤 (sem 𝓛 ((box.B E).own_val (as_box h x) vs)) (sem 𝓛 (Hd.own_val h vs))
  of_box = qed 𝓛 (‵ ((box.B E).own_val (as_box h x) vs) ∷ []) ∵ fsplit ! $ move ! (1 ∷ []) $ rewrite ! 0 (λ (l : Option (Connection.the_row).Denot). ‵ (handle_owns h.alloc h.at l)) (sym e) refl $ move ! (1 ∷ 0 ∷ []) $ fjoin ! $ done !
