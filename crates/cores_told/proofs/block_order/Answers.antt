-- A block of the picture is one of the plane.
use Rattle.transform.proofs.Geometry.{order_low}
use Rattle.cores_told.proofs.block_order.Goals as goal

pub returns-clause-inside : goal.returns-clause-inside
returns-clause-inside c = rw c.get-p.ensures.value (order_low c.get-p.ensures.sized.wide c.args.size.height.0 c.args.b c.requires)
