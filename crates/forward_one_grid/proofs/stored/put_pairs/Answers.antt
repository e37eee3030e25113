-- Four stores, one after another.
use Rattle.forward_one_grid.proofs.Lines.{fours_stored}
use Rattle.forward_one_grid.proofs.stored.put_pairs.Goals as goal

pub returns : goal.returns
returns c =
    fours_stored (record { fits = c.put_number-arg-3-1.given; is = c.put_number.ensures }) (record { fits = c.put_number-arg-6-1.given; is = c.put_number-2.ensures })
    (record { fits = c.put_number-arg-9-1.given; is = c.put_number-3.ensures }) (record { fits = c.put_number-arg-12-1.given; is = c.put_number-4.ensures })
