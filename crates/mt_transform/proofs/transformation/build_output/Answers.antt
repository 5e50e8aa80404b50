-- What the source becomes is sound, so its output is one.
use Rattle.std.proofs.Common.{◌≡◌, map, rules, subst}
use Rattle.std.proofs.lemmas.List.{length-map}
use Rattle.mt_transform.specs.Outputs.{name_of}
use Rattle.mt_transform.specs.Readings.{made}
use Rattle.mt_transform.proofs.Bodies.{transformed_sound}
use Rattle.mt_transform.proofs.transformation.build_output.Goals as goal

pub invariant_of-result : goal.invariant_of-result
invariant_of-result c =
    let sound = transformed_sound c.args.strip c.args.kind c.args.source (made c.args.strip c.args.source c.args.reading.now) c.requires.read in
    let became = made c.args.strip c.args.source c.args.reading.now in
    let body : c.in_ok-body.body ≡ became.body = subst (λ s. c.in_ok-body.body ≡ (made c.args.strip s c.args.reading.now).body) (search rules) c.in_ok-body.ensures in
    let names : c.in_ok-names.names ≡ map name_of became.dependencies = c.in_ok-names.ensures c.args.strip c.args.source in
    record { small = c.requires.small; utf8 = rw body sound.0; few = rw (names, length-map became.dependencies name_of) sound.1 }
