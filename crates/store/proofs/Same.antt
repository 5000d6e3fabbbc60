-- The order of rows doesn't matter to the tables that hold them.
use Rattle.store.proofs.Words.{Contents, Database, IsPermutation, IsPermutation-map, IsPermutation-sym}
use Rattle.store.proofs.Words.{IsPermutation-trans, List, Means, ca_cells, cert_cells, key_id_cells, map, office_cells}
use Rattle.store.proofs.Words.{ℕ}
use Rattle.sqlite.specs.Order.{Row}
use Rattle.store_sql.specs.Cells.{department_cells, request_cells, run_cells}
use Rattle.store_sql.specs.Contents.{Lists, at_places, office_places, department_places, cert_places}
use Rattle.store_sql.specs.Contents.{request_places, run_places, key_id_places, ca_places}

-- the same rows in each table, in some order
pub record IsSame (c d : Contents) : Type 0 where
  pub offices : IsPermutation c.offices d.offices
  pub departments : IsPermutation c.departments d.departments
  pub certs : IsPermutation c.certs d.certs
  pub requests : IsPermutation c.requests d.requests
  pub runs : IsPermutation c.runs d.runs
  pub revoked : IsPermutation c.revoked d.revoked
  pub cas : IsPermutation c.cas d.cas

lists_same : {X : Type 0} (cells : X → Row) (places : List ℕ) (rows : List Row) (xs ys : List X) → IsPermutation xs ys
    → Lists cells places rows xs → Lists cells places rows ys
lists_same cells places rows xs ys same h = record {
  same = IsPermutation-trans (map cells ys) (map cells xs) (map (at_places places) rows)
      (IsPermutation-map cells ys xs (IsPermutation-sym xs ys same)) h.same;
  apart = h.apart;
}

pub means_same : (db : Database) (c d : Contents) → IsSame c d → Means db c → Means db d
means_same db c d same m =
    let h = m.kept.holds in
    let t = db.trees in
    record {
      schema = m.schema;
      kept = record {
        sound = m.kept.sound;
        holds = record {
          offices = lists_same office_cells office_places (t 0) c.offices d.offices same.offices h.offices;
          departments = lists_same department_cells department_places (t 1) c.departments d.departments
              same.departments h.departments;
          departments_numbered = h.departments_numbered;
          certs = lists_same cert_cells cert_places (t 3) c.certs d.certs same.certs h.certs;
          requests = lists_same request_cells request_places (t 4) c.requests d.requests same.requests h.requests;
          requests_numbered = h.requests_numbered;
          runs = lists_same run_cells run_places (t 6) c.runs d.runs same.runs h.runs;
          revoked = lists_same key_id_cells key_id_places (t 7) c.revoked d.revoked same.revoked h.revoked;
          revoked_numbered = h.revoked_numbered;
          cas = lists_same ca_cells ca_places (t 9) c.cas d.cas same.cas h.cas;
        };
      };
    }
