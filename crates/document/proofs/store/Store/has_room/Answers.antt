use Rattle.document.proofs.Checked.{rooms}
use Rattle.document.proofs.store.Store.has_room.Goals as goal

pub returns : goal.returns
returns c =
    rooms c.args.self.now 1 c.args.codepoints c.args.names c.takes-cells_fit.result c.takes-codepoints_fit.result c.takes-names_fit.result
    c.takes-cells_fit.ensures c.takes-codepoints_fit.ensures c.takes-names_fit.ensures
