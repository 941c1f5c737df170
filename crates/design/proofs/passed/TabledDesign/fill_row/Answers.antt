use Rattle.design.specs.Design.{friends_of}
use Rattle.design.proofs.Optioned.{optioned}
use Rattle.design.proofs.passed.TabledDesign.fill_row.Goals as goal

pub returns : goal.returns
returns c =
    let given = c.write_friends-count.ensures in
    rw given.written.entries (optioned (friends_of c.args.self.now c.args.position) c.args.row.now c.write_friends-count.result c.requires.row_len given.written.number given.few)
