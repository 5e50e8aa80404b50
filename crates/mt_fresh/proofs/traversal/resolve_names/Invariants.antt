use Rattle.std.proofs.Common.{◌≡◌, map, take}
use Rattle.mt_graph.specs.Founds.{link_of}
use Rattle.mt_resolve.specs.Resolvers.{IsSound, files_in, options_in}
use Rattle.mt_fresh.proofs.traversal.resolve_names.Given as goal

abbrev pub invariant-loop-name : goal.invariant-loop-name
invariant-loop-name l = record {
  links : l.links ≡ map (link_of (options_in l.initial.resolver) (files_in l.initial.resolver) l.path) (take l.name-index l.names);
  files : files_in l.resolver ≡ files_in l.initial.resolver;
  options : options_in l.resolver ≡ options_in l.initial.resolver;
  sound : IsSound l.resolver;
}
