use Rattle.caida_reader.specs.Value.{said_in}
use Rattle.caida_reader.proofs.Values.{value_of_all}
use Rattle.caida_reader.proofs.reader.Reader.new.Goals as goal

pub returns-clause-start : goal.returns-clause-start
returns-clause-start c = λ bytes. rw (c.new.ensures, c.new-2.ensures.items) (value_of_all (said_in bytes))
