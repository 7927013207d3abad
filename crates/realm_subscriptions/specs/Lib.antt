pub mod Subscribers
pub mod Subscription
pub mod Subscriptions
pub mod Subscribing
pub mod Leaving
pub mod Receiving
pub mod Laws
pub mod Restoring
