use Rattle.steps.specs.Build.{blank}
use Rattle.document.proofs.Checked.{open_under, in_root, in_at}
use Rattle.document.proofs.store.Store.in_object.Goals as goal

pub get-requires : goal.get-requires
get-requires c = open_under c.args.self.now c.in-At.number c.in-At.is

pub returns-in-Root : goal.returns-in-Root
returns-in-Root c = in_root c.args.self.now c.in-Root.is

pub returns-in-At : goal.returns-in-At
returns-in-At c =
    in_at c.args.self.now c.in-At.number c.is_object.result c.get.result c.in-At.is c.is_object.ensures (c.get.ensures blank)
