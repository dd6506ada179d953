-- `put_texts` puts the second text where the first ended.
use Rattle.writer.proofs.Laws.{then}
use Rattle.layout.specs.Files.{body_in}
use Rattle.join.proofs.put_texts.Goals as goal

pub returns : goal.returns
returns c =
    let g = c.args.g.now in
    then c.args.out.now _ _ c.args.at (body_in g.first.bytes).text (body_in g.second.bytes).text c.put_bytes.ensures c.put_bytes-2.ensures
