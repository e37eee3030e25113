-- The rows of macroblocks from r on are transformed, their windows have run and their high-pass numbers were looked at, and the places are those of row r; at the end the topmost row and the edges.
use Prim.Native.Nat.{ℕ, ◌+◌, ◌-◌, ◌*◌, ◌≤◌, ◌<◌}
use mathlib.Core.Path.{◌≡◌, refl, ◌∙◌}
use mathlib.Core.Logic.{by_cases}
use native.Mathlib.Omega.{arith}
use native.Mathlib.Decide.{dec_lt}
use lib.ListN.{take}
use Rattle.picture.specs.Sizes.{macroblocks}
use Rattle.grid.proofs.Rows.{row-above}
use Rattle.large_numbers.proofs.Small.{neither, small_join}
use Rattle.inverse_two.proofs.Reached.{reached_next, reached_all}
use Rattle.inverse_two.proofs.Cored.{level-two-is}
use Rattle.inverse_two.proofs.level_two.Goals as goal

-- the grid has the squares of the whole picture
enough : (W H : ℕ) {p q n m : ℕ} → p ≡ 4 * W → q ≡ 4 * H → n ≡ 256 * (W * H) → m ≡ n → 16 * (p * q) ≤ m
enough W H a b c d = rw (a, b) (omega arith)

-- n rows of windows run after row r - 1 of the macroblocks: three after the last, and after the others four
module _ (r n H : ℕ) (more : 0 < r) (inside : r ≤ H) (four : r < H → n ≡ 4) (three : r ≡ H → n ≡ 3) where
  upper : 4 * r < 4 * H → 4 * (r - 1) + n ≡ 4 * r
  upper h = omega (arith, four (omega arith))

  lowest : 4 * r ≡ 4 * H → 4 * (r - 1) + n + 1 ≡ 4 * H
  lowest h = omega (arith, three (omega arith))

  room : 4 * (r - 1) + n < 4 * H
  room = by_cases (dec_lt (4 * r) (4 * H)) (λ h. omega (arith, upper h)) (λ o. omega (arith, lowest (omega (arith, o, inside))))

pub windows_if-requires-clause-long : goal.windows_if-requires-clause-long
windows_if-requires-clause-long c = enough _ _ c.blocks-blocks.ensures.width c.blocks-blocks.ensures.height c.requires.samples_len (c.macroblock_row-found.auto.samples ∙ c.loop-r.invariant.4.len)

pub loop-r-preserved : goal.loop-r-preserved
loop-r-preserved c =
    let v = c.loop-r.invariant in
    let W = c.args.size.width.0 in
    let H = c.args.size.height.0 in
    let high = c.args.high.now in
    let r = c.loop-r.r in
    let up = row-above r W (omega arith) in
    let row = rw c.get-counts.ensures.value at c.macroblock_row-found.ensures in
    let below : 4 * (r - 1) + 4 ≡ 4 * r = omega arith in
    rw c.get-counts.ensures.value (
      omega arith,
      omega (arith, v.1),
      λ h. refl,
      λ h. absurd (omega (arith, h, v.1)),
      reached_next c.samples-w.ensures.sized.wide H c.args.samples.now high c.requires.samples_len c.args.filtered (4 * (r - 1)) c.loop-r.windows (4 * r)
          (omega arith) (omega (arith, v.1)) (room r _ H v.0 v.1 v.2 v.3) (upper r _ H v.0 v.1 v.2 v.3) (lowest r _ H v.0 v.1 v.2 v.3) v.4 (rw below at row.rows_cored) (rw c.blocks-blocks.ensures.width at c.windows_if.ensures),
      omega (arith, v.5, up),
      omega (arith, v.6, up),
      omega (arith, v.7, up),
      neither (λ under here. small_join high (omega arith) here under) v.8 row.small,
    )

pub windows_if-requires-2-clause-long : goal.windows_if-requires-2-clause-long
windows_if-requires-2-clause-long c = enough _ _ c.blocks-blocks.ensures.width c.blocks-blocks.ensures.height c.requires.samples_len (c.top_row-found.auto.samples ∙ c.loop-r.invariant.4.len)

pub edges_if-requires : goal.edges_if-requires
edges_if-requires c = enough _ _ c.blocks-blocks.ensures.width c.blocks-blocks.ensures.height c.requires.samples_len (c.windows_if-2.auto.grid ∙ c.top_row-found.auto.samples ∙ c.loop-r.invariant.4.len)

pub returns-clause-samples_after : goal.returns-clause-samples_after
returns-clause-samples_after c =
    let v = c.loop-r.invariant in
    let W = c.args.size.width.0 in
    let H = c.args.size.height.0 in
    let samples = c.args.samples.now in
    let high = c.args.high.now in
    let r = c.loop-r.r in
    let wide = c.samples-w.ensures.sized.wide in
    let first : 4 * r ≡ 4 = omega arith in
    let most = room r _ H v.0 v.1 v.2 v.3 in
    level-two-is c.args.filtered W H wide (take (16 * macroblocks c.args.size) samples) high
    (reached_all wide H samples high c.requires.samples_len c.args.filtered
    (reached_next wide H samples high c.requires.samples_len c.args.filtered 0 c.loop-r.windows 4 (omega arith) (omega (arith, c.samples-w.ensures.sized.tall)) (omega (arith, most, first))
    (λ h. omega (arith, upper r _ H v.0 v.1 v.2 v.3 (omega arith))) (λ h. omega (arith, lowest r _ H v.0 v.1 v.2 v.3 (omega arith))) (rw first at v.4) c.top_row-found.ensures.rows_cored (rw c.blocks-blocks.ensures.width at c.windows_if-2.ensures)))
    (rw (c.blocks-blocks.ensures.width, c.blocks-blocks.ensures.height) at c.edges_if.ensures)
