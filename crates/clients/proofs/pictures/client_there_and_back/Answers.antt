-- Right arguments are transformed, and forward of what that gave is what it was made of.
use Rattle.clients.proofs.RoundTrips.{transforms, returns-planes}
use Rattle.clients.proofs.pictures.client_there_and_back.Goals as goal

pub returns-then-there-ne0 : goal.returns-then-there-ne0
returns-then-there-ne0 c right room again whole =
    absurd (c.if-there-ne0.true (transforms _ _ _ right room _ whole c.lapped_inverse-there.ensures.number_value))

pub returns : goal.returns
returns c right room again whole =
    let i = c.lapped_inverse-there.ensures in
    let o = c.lapped_forward.ensures in
    returns-planes _ _ _ right room _ whole _ again (record { dc = c.in_range.ensures; low = c.in_range-2.ensures; high = c.in_range-3.ensures }) c.if-there-ne0.false i.samples_after o.number_value o.high_after o.wrapped_value
