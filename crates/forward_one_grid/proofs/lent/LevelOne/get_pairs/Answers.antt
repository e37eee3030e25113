-- Four reads, one after another.
use Rattle.forward_one_grid.proofs.Lines.{fours_read}
use Rattle.forward_one_grid.proofs.lent.LevelOne.get_pairs.Goals as goal

pub returns : goal.returns
returns c =
    fours_read (record { fits = c.number.type_inv; is = c.number.ensures }) (record { fits = c.number-2.type_inv; is = c.number-2.ensures })
    (record { fits = c.number-3.type_inv; is = c.number-3.ensures }) (record { fits = c.number-4.type_inv; is = c.number-4.ensures })
