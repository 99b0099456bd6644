-- The plain form of answers.
use Rattle.core_meaning.specs.Run as plain
use Rattle.variant_interp.specs.declared.answer.RunAnswer.{RunAnswer}
use Rattle.variant_interp.specs.declared.answer.RunAnswer.TheVariants as answer

abbrev pub plain_answer : RunAnswer → plain.Answer
plain_answer (answer.Ended output status) = plain.Ended output.items status
plain_answer (answer.Running output) = plain.Running output.items
plain_answer (answer.Undefined output) = plain.Undefined output.items
