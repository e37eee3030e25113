-- The macroblocks go into one array, come out undone in two others, and are stored.
use Prim.Native.Nat.{◌-◌}
use mathlib.Core.Path.{refl, ◌∙◌, ap}
use native.Mathlib.Omega.{arith}
use Rattle.lifting.specs.Program.{undo}
use Rattle.figures.specs.Figures.{core}
use Rattle.forward_kernel.specs.Placed.{block_in}
use Rattle.forward_one_cores.proofs.Stores.{replaced_as, lane_undone}
use Rattle.forward_one_cores.proofs.undo_group.Goals as goal

pub returns : goal.returns
returns c =
    let a = c.args in
    let e = c.undo_four_cores-zeros.ensures in
    replaced_as a.t a.n (λ m. undo core (block_in a.dc.now a.low.now m)) refl refl
    (λ m h k.
    lane_undone _ _ _ _ _ (m - a.t) (omega (arith, c.requires.n_bound)) e.by_index e.placed (c.get_blocks.ensures (m - a.t) (omega arith) ∙ ap (block_in a.dc.now a.low.now) (omega arith)))
    c.move_blocks.ensures
