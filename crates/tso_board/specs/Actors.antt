-- Whose view it is: a driver's has nothing of a client's, and the other way round. Own choice: one type of view serves all actors.
use Rattle.std.specs.Prelude.{◌≡◌, [], None}
use Rattle.tso_model.specs.declared.view.View.{View}

-- the view drew nothing, looked at no limit, was refused nothing and added nothing
pub record IsDriverView (v : View) : Type 0 where
  pub grants : v.grants ≡ []
  pub looks : v.looks ≡ []
  pub refusals : v.refusals ≡ []
  pub added : v.added ≡ []

-- the view claimed no window, raised no cursor, found none, and published nothing
pub record IsClientView (v : View) : Type 0 where
  pub latest : v.latest ≡ None
  pub older : v.older ≡ []
  pub starts : v.starts ≡ []
  pub founds : v.founds ≡ []
  pub published : v.published ≡ []
