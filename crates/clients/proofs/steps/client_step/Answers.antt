-- Each range of indices by its own tests.
use mathlib.Core.Path.{◌∙◌, ap}
use native.Mathlib.Omega.{arith}
use borrow.Author.Tests.{lt-ltb, le-ltb}
use Rattle.step_sizes.specs.Steps.{step_of, step_answer}
use Rattle.clients.proofs.steps.client_step.Goals as goal

pub returns : goal.returns
unfolding step_of
returns c =
    let e = c.lapped_step.ensures in
    let i = c.before.args.index in record {
      zero = λ z. e ∙ ap step_answer z;
      small = λ a b. e ∙ simp (le-ltb 255 i (omega (arith, b)), le-ltb i 1 a, lt-ltb i 16 (omega (arith, b)));
      large = λ a b. e ∙ simp (le-ltb 255 i b, le-ltb i 1 (omega (arith, a)), le-ltb i 16 a);
      none = λ h. e ∙ simp (lt-ltb 255 i h);
    }
