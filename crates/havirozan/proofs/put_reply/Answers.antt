-- `put_reply` writes the five numbers of an answer, one after the other.
use Rattle.telling.specs.Told.{answer_in}
use Rattle.havirozan.proofs.Laws.{put_five}
use Rattle.havirozan.proofs.put_reply.Goals as goal

pub returns : goal.returns
returns c = put_five (answer_in c.args.r) c.args.answer.now _ _ _ _ _ c.put_u32.ensures c.put_u32-2.ensures c.put_u32-3.ensures c.put_u32-4.ensures c.put_u32-5.ensures
