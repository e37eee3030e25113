-- The numbers at the use's places, undone, are put back.
use Rattle.forward_one_filters.specs.Edges.{filter_of}
use Rattle.forward_one_filters.proofs.Undoing.{used}
use Rattle.forward_one_filters.proofs.uses.undo_four_filter.Goals as goal

pub returns : goal.returns
unfolding filter_of
returns c = used _ _ _ _ _ _ _ (rw c.new.ensures at c.get_pairs.ensures) c.unfiltered-v.ensures c.put_pairs.ensures
