-- What is said at once is what the call comes to.
use Rattle.std.proofs.Common.{[], Result, Ok, Err, arith}
use Rattle.project_store.specs.States.{StoreState}
use Rattle.command_promises.specs.declared.said.Said.{Said}
use Rattle.command_promises.specs.declared.said.Stop.{Stop}
use Rattle.command_promises.specs.declared.said.Stop.TheVariants.{ReadFault, WantOfMemory}
use Rattle.command_promises.specs.Courses.{Course}
use Rattle.command_promises.specs.Sayings.{SaysOrEnds, CameTo}

pub said_at_once : (course : Course) (store : StoreState) (came : Result Said Stop) → SaysOrEnds course came → CameTo course store came
said_at_once course store (Ok said) h = record { files = []; are_there = λ k d less. absurd (omega (arith, less)); leads = h }
said_at_once course store (Err ReadFault) h = absurd h
said_at_once course store (Err WantOfMemory) h = tt
