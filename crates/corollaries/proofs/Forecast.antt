-- The claim about forecasts, cited with each field.
use Rattle.forecast.proofs.Claims.{forecast_claim}
use Rattle.corollaries.specs.Sizes.{of}
use Rattle.corollaries.specs.Forecast.{CountsAreUses, BytesAreLent}
use Rattle.corollaries.proofs.Sizes.{shape}

pub counts_are_uses : CountsAreUses
counts_are_uses mode W H m a b c d =
    let f = forecast_claim mode (of W H) (shape m a b c d) in
    (f.done, f.cores, f.square-filters, f.four-filters)

pub bytes_are_lent : BytesAreLent
bytes_are_lent mode W H m a b c d s samples e =
    let f = forecast_claim mode (of W H) (shape m a b c d) in
    (f.planes s samples e, f.samples s samples e)
