use mathlib.Core.Path.{ap, ◌∙◌}
use Rattle.query_call.specs.Workspace.{workspace_answer}
use Rattle.sized_calls.proofs.work_size.Goals as goal

pub returns : goal.returns
returns c = c.workspace.ensures ∙ ap workspace_answer c.query_counts.ensures
