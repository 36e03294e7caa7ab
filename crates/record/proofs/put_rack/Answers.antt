-- `record::put_rack` meets its contract: what the pen wrote, one piece after the other, with the settings that it is given. Assumes nothing.
use Rattle.std.proofs.Common.{rules, refl}
use Rattle.model.specs.Trace.{rack_line}
use Rattle.record.proofs.Pens.{◌then◌, settings-as, put-of}
use Rattle.record.proofs.put_rack.Goals as goal

pub returns : goal.returns
unfolding rack_line
returns c =
    let given = settings-as {y = c.args.settings} c.put_settings.ensures.adds (search rules) in
    put-of refl (c.literal.ensures then c.number.ensures.adds then c.literal-2.ensures then given then c.literal-3.ensures) (search rules)
