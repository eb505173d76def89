use Rattle.model.specs.Search.{reached_by}
use mathlib.Core.Path.{ap, sym, ◌∙◌}
use native.Mathlib.Numerals.{add-one}
use native.Mathlib.Omega.{arith}
use Rattle.best_target.proofs.reached_by.Goals as goal

pub overflow_add-result : goal.overflow_add-result
overflow_add-result c = omega (arith, c.requires, ap reached_by c.in-Access.is)

pub overflow_add-result-in-Transit : goal.overflow_add-result-in-Transit
overflow_add-result-in-Transit c = omega (arith, c.requires, ap reached_by c.in-Transit.is)

pub overflow_add-result-in-Walk : goal.overflow_add-result-in-Walk
overflow_add-result-in-Walk c = omega (arith, c.requires, ap reached_by c.in-Walk.is)

pub returns-in-Access : goal.returns-in-Access
returns-in-Access c = add-one _ ∙ sym (ap reached_by c.in-Access.is)

pub returns-in-Transit : goal.returns-in-Transit
returns-in-Transit c = add-one _ ∙ sym (ap reached_by c.in-Transit.is)

pub returns-in-Walk : goal.returns-in-Walk
returns-in-Walk c = add-one _ ∙ sym (ap reached_by c.in-Walk.is)
