-- What header and load answer (01, "The numbers each operation gives").
use Rattle.std.specs.Prelude.{◌≡◌, List, ℕ}
use Rattle.plane_file.specs.declared.header.Header.{Header}
use Rattle.plane_file.specs.Words.{word_at}

-- done: mode, W and H as they stand in the file; refused: zeros in their place
pub record HeaderSaid (bytes : List ℕ) (r : Header) : Type 0 where
  pub done : r.number ≡ 0 → (r.mode ≡ word_at bytes 0) × (r.size.width.0 ≡ word_at bytes 4) × (r.size.height.0 ≡ word_at bytes 8)
  pub refused : (r.number ≡ 0 → ⊥) → (r.mode ≡ 0) × (r.size.width.0 ≡ 0) × (r.size.height.0 ≡ 0)
