-- Both claims about files, cited with each field.
use mathlib.Core.Path.{ap}
use Rattle.plane_file.specs.declared.header.Header.{Header}
use Rattle.plane_file.proofs.RoundTrips.{load-undoes-save, save-undoes-load}
use Rattle.corollaries.specs.Sizes.{of}
use Rattle.corollaries.specs.Files.{LoadGivesBack, SaveGivesBack}
use Rattle.corollaries.proofs.Sizes.{shape}
use Rattle.corollaries.proofs.Planes.{rows}

pub load-gives-back : LoadGivesBack
load-gives-back mode W H m a b c d s was p dc low high =
    let l = load-undoes-save mode (of W H) (shape m a b c d) s was (rows p) (record { dc = dc; low = low; high = high }) in
    let e = l.answer in
    (ap (λ (r : Header). r.number) e, ap (λ (r : Header). r.mode) e, ap (λ (r : Header). r.size.width.0) e, ap (λ (r : Header). r.size.height.0) e, l.planes)

pub save-gives-back : SaveGivesBack
save-gives-back bytes small into e was long = let s = save-undoes-load bytes small into e was long in (s.done, s.writes)
