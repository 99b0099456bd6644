use Rattle.choice_reading.proofs.PushReading.{moved_behind}
use Rattle.choice_reading.proofs.reading.moved_at.Goals as goal

pub returns-in-Shifts : goal.returns-in-Shifts
returns-in-Shifts c = moved_behind c.args.place c.args.token c.next_move-next.result c.in-Shifts.behind c.next_move-next.ensures c.in-Shifts.is
