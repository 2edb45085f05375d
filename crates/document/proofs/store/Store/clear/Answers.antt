use Rattle.std.proofs.Common.{ap}
use Rattle.steps.specs.Build.{tell}
use Rattle.steps.specs.Items.{items}
use Rattle.document.proofs.Adding.{same_memory}
use Rattle.document.proofs.store.Store.clear.Goals as goal

pub returns : goal.returns
returns c =
    let s = c.args.self.now in
    record {
      memory = same_memory s.cells c.cut.new.self s.codepoints c.cut-2.new.self s.names c.cut-3.new.self c.cut.ensures.sized c.cut-2.ensures.sized c.cut-3.ensures.sized;
      told = ap (tell (items c.cut-2.new.self) (items c.cut-3.new.self)) c.cut.ensures.items;
    }
