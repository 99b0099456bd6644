use Rattle.file_walks.proofs.Parts.{file-is}
use Rattle.file_walks.proofs.files_break.Goals as goal

pub returns : goal.returns
returns c = λ file length lines part broken is. (file-is file length lines part broken is).break_is
