use Prim.Native.Nat.{ℕ}
use Rattle.tables.specs.Timetable.{timetable}
use Rattle.departure_order.specs.Order.{departure_order}
use Rattle.query_door.specs.Door.{query_question6}
use mathlib.Core.Path.{◌∙◌, ap₂}
use mathlib.Core.Bool.{◌&&◌}
use mathlib.Core.List.{List}
use Rattle.query_input.proofs.Parts.{query_room}
use Rattle.query_door.proofs.order_ok.Goals as goal

pub departure_order-listed-requires : goal.departure_order-listed-requires
departure_order-listed-requires c = rw (c.stop_runs.ensures, c.departure_rows.ensures) c.requires.rows_listed

pub delay_order-requires : goal.delay_order-requires
delay_order-requires c = record { limits = c.requires.limits; query_size = query_room c.requires.read_sized }
