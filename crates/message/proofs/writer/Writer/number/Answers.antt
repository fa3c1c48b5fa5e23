-- One number.
use Rattle.message.proofs.Puts.{wrote_number}
use Rattle.message.proofs.writer.Writer.number.Goals as goal

pub returns-clause-wrote : goal.returns-clause-wrote
returns-clause-wrote c = wrote_number c.write_number-self.ensures
