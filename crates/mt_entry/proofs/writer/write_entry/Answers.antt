use Rattle.std.proofs.Common.{rules, arith, ◌∙◌, ◌<◌, ◌^◌, IsUtf8, ap, refl, subst, length, map}
use Rattle.mt_entry.specs.Entries.{entry_name_of}
use Rattle.mt_entry.specs.Readers.{AreEntryNames, start_bytes}
use Rattle.mt_entry.proofs.Reading.{can_be_kept}
use Rattle.mt_entry.proofs.Writing.{entry_pushed}
use Rattle.mt_entry.proofs.writer.write_entry.Goals as goal

pub returns-clause-says : goal.returns-clause-says
returns-clause-says c =
    let o = c.args.output.now in
    let start = c.as_slice.ensures ∙ c.start_bytes.ensures ∙ ap (λ s. start_bytes s c.kind.result) c.strip.ensures.value ∙ ap (λ k. start_bytes o.strip k) c.kind.ensures.value in
    let source = c.as_slice-source.ensures.bytes ∙ c.deref.ensures.value ∙ c.source.ensures.value in
    let names = c.as_slice-names.ensures.items ∙ c.names.ensures.value in
    let good = c.are_short.ensures.yes c.if-not-are_short.false in
    let short : length o.body < 2 ^ 32 = omega (arith, c.if-body-gt-MAX_LENGTH.false, ap length c.body-body.ensures.value) in
    let number : c.dynamic.result < 2 ^ 32 = search rules in
    let few : o.dynamic < 2 ^ 32 = omega (arith, number, c.dynamic.ensures.value) in
    let utf8 = subst IsUtf8 c.body-body.ensures.value c.body-body.ensures.utf8 in
    record {
      can = can_be_kept o c.source.ensures.small utf8 short few c.names.ensures.few (subst (λ ns. AreEntryNames (map entry_name_of ns)) names good);
      spelled = entry_pushed o c.in_ok-bytes.bytes c.extend.new.self c.push_sized.new.bytes c.push_sized-2.new.bytes c.push_word.new.bytes c.push_word-2.new.bytes c.push_names.new.bytes c.as_slice.result.now c.as_slice-source.result.now c.body-body.result.now c.as_slice-names.result.now c.dynamic.result (length c.as_slice-names.result.now)
          c.in_ok-bytes.ensures.empty c.in_ok-extend.ensures.ok c.in_ok-push_sized.ensures c.in_ok-push_sized-2.ensures c.in_ok-push_word.ensures c.in_ok-push_word-2.ensures c.in_ok-push_names.ensures
          start source c.body-body.ensures.value c.dynamic.ensures.value refl names;
    }
