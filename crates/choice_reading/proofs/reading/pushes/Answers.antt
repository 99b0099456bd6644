use Rattle.choice_reading.proofs.PushReading.{pushes_so}
use Rattle.choice_reading.proofs.reading.pushes.Goals as goal

pub returns-in-Shifts : goal.returns-in-Shifts
returns-in-Shifts c = λ none. pushes_so c.args.place c.args.token c.next_move-next.result c.in-Shifts.behind c.next_move-next.ensures c.in-Shifts.is c.if-next-gt0.false (c.has_no_number.ensures none)
