-- `kenupatun_first_fit`: the numbers of what first fit answers, and the list of ends after it.
use Rattle.kenupatun.proofs.Answers.{laid_by}
use Rattle.kenupatun.proofs.kenupatun_first_fit.Goals as goal

pub returns : goal.returns
returns c = let e = c.wrap_first_fit.ensures in record { value = laid_by c.answer_of.ensures e.value; ends_after = rw e.value at e.ends_after }
