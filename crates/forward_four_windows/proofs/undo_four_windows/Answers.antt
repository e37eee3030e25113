-- Each square undone, and moved out.
use borrow.Author.Rules.{rules}
use Rattle.lifting.specs.Program.{undo}
use Rattle.figures.specs.Figures.{square_filter}
use Rattle.lanes.proofs.Beside.{squares_by}
use Rattle.forward_four_windows.proofs.Moved.{windows_moved}
use Rattle.forward_four_windows.proofs.undo_four_windows.Goals as goal

pub returns : goal.returns
returns c =
    let a = c.args in
    windows_moved a.grid.now a.w a.at a.to _ a.strip.now _ (squares_by (undo square_filter) (λ b d post. search rules) c.each_square-out.ensures) c.move_squares.ensures
