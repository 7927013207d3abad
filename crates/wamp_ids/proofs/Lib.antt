mod Glance
