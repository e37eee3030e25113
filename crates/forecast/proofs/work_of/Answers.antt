-- The uses of both levels added, and 1024 bytes for each macroblock.
use Rattle.forecast.specs.Forecast.{work_by}
use Rattle.forecast.proofs.work_of.Goals as goal

pub returns : goal.returns
unfolding work_by
returns c =
    rw (
      c.level_uses-one.ensures.value,
      c.level_uses-two.ensures.value,
      c.get-size.ensures.value,
      c.blocks-blocks.ensures.width,
      c.blocks-blocks.ensures.height,
      c.get-bytes.ensures.value,
      c.macroblocks.ensures.value,
    )
