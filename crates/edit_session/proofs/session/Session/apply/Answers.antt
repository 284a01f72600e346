use Rattle.edit_session.proofs.session.Session.apply.Goals as goal

-- the products are those of the edit that is made

pub returns-in-Ok-clause-products : goal.returns-in-Ok-clause-products
returns-in-Ok-clause-products g c =
    let is = c.in-Ok.ensures.products in record { rises = is.rises; most = is.most; none = is.none }

pub returns-in-Err-clause-products : goal.returns-in-Err-clause-products
returns-in-Err-clause-products g c =
    let is = c.in-Err.ensures.products in record { rises = is.rises; most = is.most; none = is.none }
