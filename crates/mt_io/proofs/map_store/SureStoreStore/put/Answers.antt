use Rattle.std.proofs.Common.{subst, sym}
use Rattle.mt_io.specs.Honest.{AreHonest}
use Rattle.mt_io.proofs.Honest.{honest_put}
use Rattle.mt_io.proofs.map_store.SureStoreStore.put.Goals as goal

pub returns-clause-honest : goal.returns-clause-honest
returns-clause-honest c = λ honest own. subst AreHonest (sym c.in_ok-put_in.ensures.ok) (honest_put _ _ _ (subst AreHonest (sym c.self.view_is) honest) own)
