-- What a run tells keeps all laws.
use Rattle.std.proofs.Common.{List}
use Rattle.hub_core.specs.View.{View}
use Rattle.gw_law.specs.Account.{Account}
use Rattle.gw_law.specs.Deeds.{Deeds, Window}
use Rattle.gw_law.specs.Lawful.{Lawful}
use Rattle.gw_law.specs.Run.{IsRun}
use Rattle.gw_law.proofs.Dests.{all-dests}
use Rattle.gw_law.proofs.Routes.{all-routes}
use Rattle.gw_law.proofs.Sources.{all-sources}
use Rattle.gw_law.proofs.Written.{written-law}
use Rattle.gw_law.proofs.pools.PoolRuns.{pool_of}

pub laws : (a : Account) (d : Deeds) (windows : List Window) (v : View) → IsRun a d windows v → Lawful a
laws a d windows v is =
    let sources = all-sources a d windows v is in
    let dests = all-dests a a.plan.senders d.senders is.plan.senders is.senders in
    record {
      sources = sources;
      dests = dests;
      routes = λ place other r s r_there s_there path. all-routes a d windows v place other r s is r_there s_there path;
      no_others = is.no_others;
      pool = pool_of a d windows v is;
      buses = is.buses;
      written = λ bus. written-law a sources dests bus (is.buses bus);
    }
