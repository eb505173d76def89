-- The call that says how long a workspace to lend. Definitions only.
use Rattle.door.specs.declared.Answer.{Answer}
use Rattle.door.specs.Door.{ask, answer}
use Rattle.door.specs.Settings.{settings_asked}
use Rattle.query_types.specs.declared.QueryCounts.{QueryCounts}
use Rattle.query_door.specs.Door.{query_question1}
use Rattle.query_types.specs.Layout.{work_size_of}

-- how long a workspace to lend: questions 1 and 14
unfoldable pub workspace_answer : QueryCounts → Answer
workspace_answer n = answer (ask 1 (query_question1 n) (settings_asked n.settings)) (work_size_of n)
