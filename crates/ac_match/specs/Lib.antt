pub mod SiteOrders
pub mod MatchInternals
