-- Right arguments are saved, and what was saved loads.
use Rattle.clients.proofs.RoundTrips.{saves, comes_back}
use Rattle.clients.proofs.files.client_save_and_load.Goals as goal

pub returns-then-number-ne0 : goal.returns-then-number-ne0
returns-then-number-ne0 c right room again whole =
    absurd (c.if-number-ne0.true (saves _ _ _ right room _ whole c.lapped_save-number.ensures.value))

pub returns : goal.returns
returns c right room again whole =
    comes_back _ _ _ right room _ whole _ again (record { dc = c.in_range.ensures; low = c.in_range-2.ensures; high = c.in_range-3.ensures }) c.lapped_save-number.ensures.bytes_after c.lapped_load.ensures.value c.lapped_load.ensures.high_after
